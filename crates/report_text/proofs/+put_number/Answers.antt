-- `put_number` meets its contract: the last digit stands behind what is above it. Assumes nothing.
use native.Mathlib.Omega.{arith}
use mathlib.Core.Path.{sym, ap, ◌∙◌}
use lib.ListN.{length}
use Prim.Native.Nat.{◌<◌}
use Rattle.report_text.specs.Texts.{lay}
use Rattle.report_text.proofs.TextLaws.{decimal_one, decimal_more, decimal_room, decimal_above, lay_next, lay_then}
use Rattle.report_text.proofs.+put_number.Goals as goal

pub put_byte-requires : goal.put_byte-requires
put_byte-requires t c = omega (arith, c.requires, ap length (decimal_one c.args.x c.if-x-lt10.true))

pub returns-then-x-lt10 : goal.returns-then-x-lt10
returns-then-x-lt10 t c = c.put_byte.ensures ∙ ap (lay c.args.out.now c.args.at) (sym (decimal_one _ c.if-x-lt10.true))

pub put_number-p-requires : goal.put_number-p-requires
put_number-p-requires t c = (omega arith, decimal_above _ _ _ c.if-x-lt10.false (omega arith) c.requires)

pub put_byte-requires-2 : goal.put_byte-requires-2
put_byte-requires-2 t c =
    let small : c.args.x < 18446744073709551616 = omega arith in
    omega (
      arith,
      lay_next _ _ _ _ _ c.put_number-p.ensures,
      decimal_room c.args.x c.args.at (length c.args.out.now) c.if-x-lt10.false small c.requires,
    )

pub returns : goal.returns
returns t c =
    let small : c.args.x < 18446744073709551616 = omega arith in
    lay_then _ _ _ _ _ _ _ _ (decimal_above _ _ _ c.if-x-lt10.false small c.requires) c.put_number-p.ensures c.put_byte-2.ensures
    ∙ ap (lay c.args.out.now c.args.at) (sym (decimal_more _ c.if-x-lt10.false small))
