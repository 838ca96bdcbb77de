-- `blocks::record_good` meets its contract: each return is one of the cases of `record_good`. Assumes nothing.
use native.Mathlib.Omega.{arith}
use mathlib.Core.Path.{sym, ◌∙◌}
use mathlib.Core.Bool.{true≢false}
use Rattle.image_form.proofs.VertexLaws.{record_low, record_high, record_first, record_second, record_third}
use Rattle.image_checks.proofs.blocks.record_good.Goals as goal
use Rattle.image_checks.proofs.blocks.record_good.Goals.{then-d-last-via-then-d-last, then-d-last-via-else-d-last+then-n-d, then-finite_at, else-finite_at}

pub returns-then-d-last : goal.returns-then-d-last
returns-then-d-last c = elim c.then-d-last.branch [
  | then-d-last-via-then-d-last w ↦ record_low _ _ _ _ (omega arith)
  | then-d-last-via-else-d-last+then-n-d w ↦ record_high _ _ _ _ (omega arith) (omega arith)
]

pub returns-then-finite_at-2 : goal.returns-then-finite_at-2
returns-then-finite_at-2 c = elim c.if-finite_at.branch [
  | then-finite_at w ↦ c.finite_at-then-finite_at-2.ensures
      ∙ record_third _ _ _ _ (omega arith) (omega arith) (sym c.finite_at.ensures ∙ w.if-finite_at.true)
      (sym w.finite_at-then-finite_at.ensures ∙ sym w.value-is ∙ c.if-finite_at-2.true)
  | else-finite_at w ↦ absurd (true≢false (sym c.if-finite_at-2.true ∙ w.value-is ∙ w.if-finite_at.false))
]

pub returns-else-finite_at-2 : goal.returns-else-finite_at-2
returns-else-finite_at-2 c = elim c.if-finite_at.branch [
  | then-finite_at w ↦ c.if-finite_at-2.false
      ∙ record_second _ _ _ _ (omega arith) (omega arith) (sym c.finite_at.ensures ∙ w.if-finite_at.true)
      (sym w.finite_at-then-finite_at.ensures ∙ sym w.value-is ∙ c.if-finite_at-2.false)
  | else-finite_at w ↦ c.if-finite_at-2.false
      ∙ record_first _ _ _ _ (omega arith) (omega arith) (sym c.finite_at.ensures ∙ w.if-finite_at.false)
]
