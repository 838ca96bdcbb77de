-- `lines::put_value` meets its contract: a space, then the number. Assumes nothing.
use native.Mathlib.Omega.{arith}
use Rattle.report_text.proofs.TextLaws.{lay_next}
use Rattle.report_lines.proofs.Rooms.{decimal_room}
use Rattle.report_lines.proofs.LineLaws.{value_is, value_next}
use Rattle.report_lines.proofs.lines.put_value.Goals as goal

pub put_number-requires : goal.put_number-requires
put_number-requires c =
    omega (
      arith,
      decimal_room c.args.x (omega arith),
      lay_next _ _ _ _ _ c.put_byte-p.ensures,
      c.put_byte-p.auto.out,
    )

pub returns : goal.returns
returns c = (
  value_is c.args.x _ _ _ _ _ _ c.requires c.put_byte-p.ensures c.put_number.ensures,
  value_next c.args.x _ _ _ _ _ _ (omega arith) c.put_byte-p.ensures c.put_number.ensures,
)
