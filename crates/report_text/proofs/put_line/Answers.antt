-- `put_line` meets its contract: its parts one behind the other. Assumes nothing.
use native.Mathlib.Omega.{arith}
use lib.ListN.{length}
use Rattle.report_text.proofs.TextLaws.{lay_next, line_length, line_is}
use Rattle.report_text.proofs.put_line.Goals as goal

pub put_bytes-a-requires : goal.put_bytes-a-requires
put_bytes-a-requires c = omega (arith, c.requires, line_length c.args.name.now c.args.list.now (length c.args.list.now))

pub put_byte-b-requires : goal.put_byte-b-requires
put_byte-b-requires c =
    omega (
      arith,
      c.requires,
      line_length c.args.name.now c.args.list.now (length c.args.list.now),
      lay_next _ _ _ _ _ c.put_bytes-a.ensures,
      c.put_bytes-a.auto.out,
    )

pub put_number-c-requires : goal.put_number-c-requires
put_number-c-requires c =
    omega (
      arith,
      c.requires,
      line_length c.args.name.now c.args.list.now (length c.args.list.now),
      lay_next _ _ _ _ _ c.put_bytes-a.ensures,
      c.put_bytes-a.auto.out,
      lay_next _ _ _ _ _ c.put_byte-b.ensures,
      c.put_byte-b.auto.out,
    )

pub put_byte-d-requires : goal.put_byte-d-requires
put_byte-d-requires c =
    omega (
      arith,
      c.requires,
      line_length c.args.name.now c.args.list.now (length c.args.list.now),
      lay_next _ _ _ _ _ c.put_bytes-a.ensures,
      c.put_bytes-a.auto.out,
      lay_next _ _ _ _ _ c.put_byte-b.ensures,
      c.put_byte-b.auto.out,
      lay_next _ _ _ _ _ c.put_number-c.ensures,
      c.put_number-c.auto.out,
    )

pub put_items-e-requires : goal.put_items-e-requires
put_items-e-requires c =
    omega (
      arith,
      c.requires,
      line_length c.args.name.now c.args.list.now (length c.args.list.now),
      lay_next _ _ _ _ _ c.put_bytes-a.ensures,
      c.put_bytes-a.auto.out,
      lay_next _ _ _ _ _ c.put_byte-b.ensures,
      c.put_byte-b.auto.out,
      lay_next _ _ _ _ _ c.put_number-c.ensures,
      c.put_number-c.auto.out,
      lay_next _ _ _ _ _ c.put_byte-d.ensures,
      c.put_byte-d.auto.out,
    )

pub put_byte-requires : goal.put_byte-requires
put_byte-requires c =
    omega (
      arith,
      c.requires,
      line_length c.args.name.now c.args.list.now (length c.args.list.now),
      lay_next _ _ _ _ _ c.put_bytes-a.ensures,
      c.put_bytes-a.auto.out,
      lay_next _ _ _ _ _ c.put_byte-b.ensures,
      c.put_byte-b.auto.out,
      lay_next _ _ _ _ _ c.put_number-c.ensures,
      c.put_number-c.auto.out,
      lay_next _ _ _ _ _ c.put_byte-d.ensures,
      c.put_byte-d.auto.out,
      lay_next _ _ _ _ _ c.put_items-e.ensures,
      c.put_items-e.auto.out,
    )

pub returns : goal.returns
returns c =
    line_is c.args.name.now c.args.list.now (length c.args.list.now) _ _ _ _ _ _ _ _ _ _ _ _ _ _ c.requires
    c.put_bytes-a.ensures c.put_byte-b.ensures c.put_number-c.ensures c.put_byte-d.ensures
    c.put_items-e.ensures c.put_byte.ensures
