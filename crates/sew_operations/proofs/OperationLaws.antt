-- The laws of the operations.
--   lent_marks, lent_queue, lent_slots   what an operation is lent, once its guard has passed
--   loans_are    the loans that a match has found
--   slots_are    the slots that a match has found
-- Assumes nothing.
use Prim.Native.Nat.{ℕ, ◌≤◌}
use mathlib.Core.Path.{◌≡◌, sym, ap, ◌∙◌, subst}
use Rattle.map_betas.specs.declared.loans.Loans.{Loans}
use Rattle.map_betas.specs.Guards.{Lent}
use Rattle.sew_operations.specs.declared.operations.Operation.{Operation}
use Rattle.sew_operations.specs.declared.operations.Operation.TheVariants.{OneSew, OneUnsew, TwoSew, TwoUnsew, ThreeUnsew}
use Rattle.sew_operations.specs.Operations.{loans_of, Slots}

module _ (n marks queue vertices coordinates : ℕ) where
  pub lent_marks : (op : Operation) → Lent n (loans_of op marks queue vertices coordinates) → n ≤ marks
  lent_marks OneSew l = l.marks
  lent_marks OneUnsew l = l.marks
  lent_marks TwoSew l = l.marks
  lent_marks TwoUnsew l = l.marks
  lent_marks ThreeUnsew l = l.marks

  pub lent_queue : (op : Operation) → Lent n (loans_of op marks queue vertices coordinates) → n ≤ queue
  lent_queue OneSew l = l.queue
  lent_queue OneUnsew l = l.queue
  lent_queue TwoSew l = l.queue
  lent_queue TwoUnsew l = l.queue
  lent_queue ThreeUnsew l = l.queue

  pub lent_slots : (op : Operation) → Lent n (loans_of op marks queue vertices coordinates) → Slots op n vertices coordinates
  lent_slots OneSew l = tt
  lent_slots OneUnsew l = tt
  lent_slots TwoSew l = (l.vertices, l.coordinates)
  lent_slots TwoUnsew l = tt
  lent_slots ThreeUnsew l = tt

pub loans_are : (o k : Operation) (marks queue vertices coordinates : ℕ) (l : Loans) → o ≡ k → l ≡ loans_of k marks queue vertices coordinates →
    l ≡ loans_of o marks queue vertices coordinates
loans_are o k marks queue vertices coordinates l e h = h ∙ ap (λ (x : Operation). loans_of x marks queue vertices coordinates) (sym e)

pub slots_are : (o k : Operation) (n vertices coordinates : ℕ) → o ≡ k → Slots o n vertices coordinates → Slots k n vertices coordinates
slots_are o k n vertices coordinates e s = subst (λ (x : Operation). Slots x n vertices coordinates) e s
