-- `free::bound_at` meets its contract: a flag that is 0 says used; else the dart is bound where it is not free. Assumes nothing.
use native.Mathlib.Omega.{arith}
use mathlib.Core.Path.{sym, ap, ◌∙◌}
use mathlib.Core.Bool.{not}
use Rattle.map_betas.proofs.FreeLaws.{used_zero, unused_flag, bound_used, bound_unused}
use Rattle.map_breaches.proofs.free.bound_at.Goals as goal

pub returns-then-flags-d-eq0 : goal.returns-then-flags-d-eq0
returns-then-flags-d-eq0 c = sym (bound_used _ _ _ (used_zero _ _ (omega (arith, c.if-flags-d-eq0.true))))

pub returns : goal.returns
returns c = ap not c.free_at.ensures ∙ bound_unused _ _ _ (unused_flag _ _ (omega (arith, c.requires.2)) (omega (arith, c.if-flags-d-eq0.false)))
