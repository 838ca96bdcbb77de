-- `structure::map_test` meets its contract. The loop's invariant: what the search still to come finds is what the test says. Assumes nothing.
use native.Mathlib.Omega.{arith}
use mathlib.Core.Path.{refl, sym, ◌∙◌}
use Prim.Native.Nat.{◌≤◌}
use Rattle.map_betas.specs.Maps.{breach_at}
use Rattle.map_betas.proofs.MapLaws.{first_start, first_hit, first_bound, first_miss, first_end_lem, breach_clean, null_kept}
use Rattle.map_betas.proofs.FreeLaws.{used_null, bound_used}
use Rattle.map_test.proofs.structure.map_test.Goals as goal

pub returns-then-b-lt4 : goal.returns-then-b-lt4
returns-then-b-lt4 c =
    let pre = c.requires in
    first_hit _ _ _ _ _ pre.0.some c.null_breach-b.ensures c.if-b-lt4.true ∙ sym (first_start _ _ _ refl)

pub loop-d-init : goal.loop-d-init
loop-d-init c =
    let pre = c.requires in
    let rows = c.args.rows.now in
    let clean : 4 ≤ breach_at rows 0 = omega (arith, c.null_breach-b.ensures, c.if-b-lt4.false) in (
      pre.0,
      omega arith,
      omega (arith, pre.0.some),
      first_start _ _ _ (omega arith) ∙ first_miss _ _ _ _ (omega (arith, pre.0.some)) clean (bound_used _ _ _ (used_null _)),
      omega arith,
      (λ i h. null_kept _ pre.0 i (breach_clean _ _ clean i h)),
      omega (arith, pre.1),
    )

pub returns-then-i-lt4 : goal.returns-then-i-lt4
returns-then-i-lt4 c = first_hit _ _ _ _ _ (omega arith) c.breach_at-i.ensures c.if-i-lt4.true ∙ sym c.loop-d.invariant.3

pub returns-then-bound_at : goal.returns-then-bound_at
returns-then-bound_at c =
    first_bound _ _ _ _ (omega arith) (omega (arith, c.breach_at-i.ensures, c.if-i-lt4.false))
    (sym c.bound_at.ensures ∙ c.if-bound_at.true) ∙ sym c.loop-d.invariant.3

pub loop-d-preserved : goal.loop-d-preserved
loop-d-preserved c =
    let inv = c.loop-d.invariant in (
      inv.0,
      inv.1,
      omega arith,
      inv.3 ∙ first_miss _ _ _ _ (omega arith) (omega (arith, c.breach_at-i.ensures, c.if-i-lt4.false))
          (sym c.bound_at.ensures ∙ c.if-bound_at.false),
      omega arith,
      inv.5,
      inv.6,
    )

pub returns : goal.returns
returns c = first_end_lem _ _ _ _ (omega arith) ∙ sym c.loop-d.invariant.3
