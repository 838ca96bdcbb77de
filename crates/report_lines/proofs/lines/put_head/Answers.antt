-- `lines::put_head` meets its contract: its parts one behind the other. Assumes nothing.
use native.Mathlib.Omega.{arith}
use Rattle.report_text.proofs.TextLaws.{lay_next}
use Rattle.report_lines.proofs.LineLaws.{head_is}
use Rattle.report_lines.proofs.lines.put_head.Goals as goal

pub put_value-q-requires : goal.put_value-q-requires
put_value-q-requires c = omega (arith, c.requires, lay_next _ _ _ _ _ c.put_bytes-p.ensures, c.put_bytes-p.auto.out)

pub put_bytes-u-requires : goal.put_bytes-u-requires
put_bytes-u-requires c =
    omega (
      arith,
      c.requires,
      lay_next _ _ _ _ _ c.put_bytes-p.ensures,
      c.put_bytes-p.auto.out,
      c.put_value-q.ensures.1,
      c.put_value-q.auto.text,
    )

pub put_value-v-requires : goal.put_value-v-requires
put_value-v-requires c =
    omega (
      arith,
      c.requires,
      lay_next _ _ _ _ _ c.put_bytes-p.ensures,
      c.put_bytes-p.auto.out,
      c.put_value-q.ensures.1,
      c.put_value-q.auto.text,
      lay_next _ _ _ _ _ c.put_bytes-u.ensures,
      c.put_bytes-u.auto.out,
    )

pub put_byte-requires : goal.put_byte-requires
put_byte-requires c =
    omega (
      arith,
      c.requires,
      lay_next _ _ _ _ _ c.put_bytes-p.ensures,
      c.put_bytes-p.auto.out,
      c.put_value-q.ensures.1,
      c.put_value-q.auto.text,
      lay_next _ _ _ _ _ c.put_bytes-u.ensures,
      c.put_bytes-u.auto.out,
      c.put_value-v.ensures.1,
      c.put_value-v.auto.text,
    )

pub returns : goal.returns
returns c = (
  head_is c.args.n c.args.used _ _ _ _ _ _ _ _ _ _ _ _ c.put_value-q.ensures.1 c.put_value-v.ensures.1
      c.requires c.put_bytes-p.ensures c.put_value-q.ensures.0 c.put_bytes-u.ensures
      c.put_value-v.ensures.0 c.put_byte.ensures,
  omega (
    arith,
    lay_next _ _ _ _ _ c.put_bytes-p.ensures,
    c.put_bytes-p.auto.out,
    c.put_value-q.ensures.1,
    c.put_value-q.auto.text,
    lay_next _ _ _ _ _ c.put_bytes-u.ensures,
    c.put_bytes-u.auto.out,
    c.put_value-v.ensures.1,
    c.put_value-v.auto.text,
    lay_next _ _ _ _ _ c.put_byte.ensures,
  ),
)
