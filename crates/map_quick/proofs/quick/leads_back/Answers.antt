-- `quick::leads_back` meets its contract: where it says yes, each of the four images breaks no rule. Assumes nothing.
use native.Mathlib.Omega.{arith}
use Rattle.map_betas.proofs.MapLaws.{keeps_led, breach_none}
use Rattle.map_quick.proofs.quick.leads_back.Goals as goal

pub returns : goal.returns
returns c =
    λ e.
    let z = c.requires.1 in
    let b = c.all_below.ensures c.if-not-all_below.false in
    let sides = c.sides_lead_back.ensures e in
    breach_none _ _
    (keeps_led _ 0 _ _ _ c.beta_at-x0.ensures c.beta_at.ensures b.0 (omega (arith, z))
    c.if-beta_at-d.false (λ l. absurd (omega arith)))
    (keeps_led _ 1 _ _ _ c.beta_at-x1.ensures c.beta_at-2.ensures b.1 (omega (arith, z))
    c.if-beta_at-d-2.false (λ l. absurd (omega arith)))
    sides.0
    sides.1
