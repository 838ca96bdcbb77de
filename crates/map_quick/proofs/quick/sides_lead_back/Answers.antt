-- `quick::sides_lead_back` meets its contract: where it says yes, each of the two images is null or leads back to a dart other than itself. Assumes
-- nothing.
use native.Mathlib.Omega.{arith}
use borrow.Author.Tests.{eqb-true, eqb-false, not-true}
use Rattle.map_betas.proofs.MapLaws.{keeps_none, keeps_led}
use Rattle.map_quick.proofs.quick.sides_lead_back.Goals as goal

pub returns-then-back_y-d : goal.returns-then-back_y-d
returns-then-back_y-d c =
    λ e.
    let p = c.requires in
    (keeps_none _ 2 _ _ p.2 p.4 c.if-x-ne0.false, keeps_none _ 3 _ _ p.3 p.5 (eqb-true _ _ e))

pub returns-then-back_x-d : goal.returns-then-back_x-d
returns-then-back_x-d c =
    λ e.
    let p = c.requires in (
      keeps_none _ 2 _ _ p.2 p.4 c.if-x-ne0.false,
      keeps_led _ 3 _ _ _ p.3 c.beta_at-back_y.ensures p.5 (omega (arith, p.1)) c.if-back_y-d.false (λ l. eqb-false _ _ (not-true _ e)),
    )

pub returns-then-back_y-d-2 : goal.returns-then-back_y-d-2
returns-then-back_y-d-2 c =
    λ e.
    let p = c.requires in (
      keeps_led _ 2 _ _ _ p.2 c.beta_at-back_x.ensures p.4 (omega (arith, p.1)) c.if-back_x-d.false
          (λ l. c.if-x-d.false),
      keeps_none _ 3 _ _ p.3 p.5 (eqb-true _ _ e),
    )

pub returns : goal.returns
returns c =
    λ e.
    let p = c.requires in (
      keeps_led _ 2 _ _ _ p.2 c.beta_at-back_x.ensures p.4 (omega (arith, p.1)) c.if-back_x-d.false
          (λ l. c.if-x-d.false),
      keeps_led _ 3 _ _ _ p.3 c.beta_at-back_y.ensures p.5 (omega (arith, p.1)) c.if-back_y-d-2.false (λ l. eqb-false _ _ (not-true _ e)),
    )
