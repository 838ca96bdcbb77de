-- `map_test` meets its contract. The loop's invariant: what the search still to come finds is what the test says. Assumes nothing.
use native.Mathlib.Omega.{arith}
use mathlib.Core.Path.{sym, ◌∙◌}
use Rattle.map_betas.proofs.MapLaws.{first_start, first_hit, first_bound, first_miss, first_end_lem}
use Rattle.image_form.proofs.StoredLaws.{rows_darts}
use Rattle.image_map.proofs.map_test.Goals as goal

pub loop-d-init : goal.loop-d-init
loop-d-init c = first_start _ _ _ (sym (rows_darts _ _))

pub returns-then-i-lt4 : goal.returns-then-i-lt4
returns-then-i-lt4 c = first_hit _ _ _ _ _ (omega arith) c.breach_at-i.ensures c.if-i-lt4.true ∙ sym c.loop-d.invariant

pub returns-then-bound_at : goal.returns-then-bound_at
returns-then-bound_at c =
    first_bound _ _ _ _ (omega arith) (omega (arith, c.breach_at-i.ensures, c.if-i-lt4.false))
    (sym c.bound_at.ensures ∙ c.if-bound_at.true) ∙ sym c.loop-d.invariant

pub loop-d-preserved : goal.loop-d-preserved
loop-d-preserved c =
    c.loop-d.invariant ∙ first_miss _ _ _ _ (omega arith) (omega (arith, c.breach_at-i.ensures, c.if-i-lt4.false))
    (sym c.bound_at.ensures ∙ c.if-bound_at.false)

pub returns : goal.returns
returns c = first_end_lem _ _ _ _ (omega arith) ∙ sym c.loop-d.invariant
