-- `breaches::breaks_at` meets its contract: each return is one of the cases of `breaks`. Assumes nothing.
use native.Mathlib.Omega.{arith}
use mathlib.Core.Path.{sym, ap, ◌∙◌}
use mathlib.Core.Bool.{Bool, ◌&&◌}
use lib.Dec.{eqb}
use borrow.Author.Tests.{le-leb, lt-leb}
use Rattle.map_betas.proofs.MapLaws.{breaks_far, breaks_astray, breaks_led}
use Rattle.map_breaches.proofs.breaches.breaks_at.Goals as goal

pub returns-then-n-x : goal.returns-then-n-x
returns-then-n-x c = sym (breaks_far _ _ _ (omega arith))

pub returns-then-beta_at-d : goal.returns-then-beta_at-d
returns-then-beta_at-d c =
    breaks_astray _ _ _ _ _ _ c.opp_of.ensures c.beta_at-x.ensures c.beta_at.ensures (omega arith)
    (omega (arith, c.requires.3)) c.if-beta_at-d.true

pub returns-then-i-ge2 : goal.returns-then-i-ge2
returns-then-i-ge2 c =
    sym (ap (λ (b : Bool). b && eqb c.beta_at-x.result c.args.d) (le-leb 2 c.args.i c.if-i-ge2.true))
    ∙ breaks_led _ _ _ _ _ _ c.opp_of.ensures c.requires.2 c.requires.1 c.beta_at-x.ensures
    c.beta_at.ensures (omega arith) (omega (arith, c.requires.3)) c.if-beta_at-d.false

pub returns : goal.returns
returns c =
    sym (ap (λ (b : Bool). b && eqb c.beta_at-x.result c.args.d) (lt-leb 2 c.args.i c.if-i-ge2.false))
    ∙ breaks_led _ _ _ _ _ _ c.opp_of.ensures c.requires.2 c.requires.1 c.beta_at-x.ensures
    c.beta_at.ensures (omega arith) (omega (arith, c.requires.3)) c.if-beta_at-d.false
