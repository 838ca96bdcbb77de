-- `guard::no_dart` meets its contract: each return is one of the cases of `no_dart`. Assumes nothing.
use native.Mathlib.Omega.{arith}
use mathlib.Core.Path.{refl, sym, ◌∙◌}
use Rattle.map_betas.proofs.GuardLaws.{dart_low, dart_high, dart_any, dart_flag}
use Rattle.map_betas.proofs.FreeLaws.{unused_is}
use Rattle.map_guard.proofs.guard.no_dart.Goals as goal

pub returns-then-d-least : goal.returns-then-d-least
returns-then-d-least c = sym (dart_low _ _ _ _ (omega (arith, c.if-d-least.true)))

pub returns-then-n-d : goal.returns-then-n-d
returns-then-n-d c = sym (dart_high _ _ _ _ (omega (arith, c.if-d-least.false)) (omega (arith, c.if-n-d.true)))

pub returns-then-least-eq0 : goal.returns-then-least-eq0
returns-then-least-eq0 c = sym (dart_any _ _ _ _ (omega (arith, c.if-least-eq0.true)) (omega (arith, c.if-d-least.false)) (omega (arith, c.if-n-d.false)))

pub returns : goal.returns
returns c =
    let low = c.if-d-least.false in
    let real = c.if-least-eq0.false in
    unused_is _ _ _ refl (omega arith) ∙ dart_flag _ _ _ _ (omega (arith, real)) (omega (arith, low)) (omega (arith, c.if-n-d.false))
