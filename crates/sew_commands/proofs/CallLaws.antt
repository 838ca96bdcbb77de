-- The call of a list of commands.
--   lent_done       what holds once size and loans have passed
--   lent_long       the loans that a list's calls are lent are long enough, and there is room for every answer
--   long_same       loans for rows of the same length
--   called_made     on a map a list of calls is what the code makes
--   list_broken, list_no_map, list_all   the ways in which it ends behind the tests of size and loans
-- Assumes nothing.
use Prim.Native.Nat.{ℕ, ◌*◌, ◌/◌, ◌%◌, ◌≤◌}
use native.Mathlib.Omega.{arith}
use mathlib.Core.Path.{◌≡◌, refl, sym, ap, ◌∙◌}
use mathlib.Core.Logic.{◌≢◌}
use mathlib.Core.Bool.{Bool, true, false, cond}
use mathlib.Core.List.{List}
use lib.Dec.{leb}
use lib.Ieee.{Float}
use lib.ListN.{length}
use borrow.Author.Tests.{leb-true, eq-eqb, ne_eqb}
use Rattle.map_betas.specs.declared.error.Refusal.TheVariants.{BadCommand}
use Rattle.map_betas.specs.declared.loans.Loans.{Loans}
use Rattle.map_betas.specs.Betas.{darts}
use Rattle.map_betas.specs.Answers.{Outcome, outcome, Answer, Test}
use Rattle.map_betas.specs.Maps.{Sized, size_test, map_test, Map, Stays}
use Rattle.map_betas.specs.Guards.{enough, counted_as, Lent}
use Rattle.map_betas.proofs.AnswerLaws.{first_done, then_done, behind_refused}
use Rattle.map_betas.proofs.Formed.{size_done}
use Rattle.map_betas.proofs.GuardLaws.{lent}
use Rattle.cell_steps.specs.Calls.{wiped}
use Rattle.sew_answers.specs.Words.{answer_width}
use Rattle.sew_commands.specs.Commands.{Lending, lending, LongEnough, called, run}
use Rattle.sew_commands.specs.Lists.{Made, made, filled}
use Rattle.sew_commands.specs.Calls.{CommandLoans, loans_for, commands_lent, list_done, list_tested}
use Rattle.sew_commands.proofs.CommandLaws.{called_on_map, run_kept}
use Rattle.sew_commands.proofs.ListLaws.{made_same}
use Rattle.std.specs.Prelude.{⊤, Ok, Err, is_ok, IsErrAnd}
use Rattle.map_betas.specs.declared.error.Refusal.{Refusal}

pub lent_done : (rows flags : List ℕ) (loans : Loans) → is_ok (commands_lent rows flags loans) ≡ true →
    Sized rows × (darts rows ≤ length flags) × Lent (darts rows) loans
unfolding commands_lent
lent_done rows flags loans t =
    let l = lent (darts rows) (length flags) loans (then_done (size_test rows) _ t) in
    (size_done rows (first_done (size_test rows) _ t), l.0, l.1)

-- a loan that counts as long enough for one dart has the places needed
counted : (n have needed : ℕ) → 1 ≤ n → n ≤ counted_as have needed → needed ≤ have
counted n have needed h = go (leb needed have) refl
  where
    go : (b : Bool) → leb needed have ≡ b → n ≤ cond b enough 0 → needed ≤ have
    go true e k = leb-true needed have e
    go false e k = absurd (omega arith)

module _ (rows marks queue output flags vertices : List ℕ) (coordinates : List Float) (list : List ℕ) (s : Sized rows)
    (l : Lent (darts rows) (loans_for marks queue output vertices coordinates list)) where
  pub lent_long : LongEnough (darts rows) (lending marks queue flags vertices coordinates)
  lent_long = record { marks = l.marks; queue = l.queue; vertices = l.vertices; coordinates = l.coordinates }

  pub lent_room : answer_width * (length list / 3) ≤ length output
  lent_room =
      let h = counted (darts rows) (length output / answer_width) (length list / 3) s.some l.output in
      omega arith

-- loans that are long enough for some rows are so for others of their length
pub long_same : (rows rows₁ : List ℕ) (lent : Lending) → length rows₁ ≡ length rows → LongEnough (darts rows) lent → LongEnough (darts rows₁) lent
long_same rows rows₁ lent e long =
    let m = long.marks in
    let q = long.queue in
    let v = long.vertices in
    let x = long.coordinates in
    record { marks = omega arith; queue = omega arith; vertices = omega arith; coordinates = omega arith }

pub called_made : (lent : Lending) (list rows plan : List ℕ) → Map rows lent.flags → LongEnough (darts rows) lent →
    made (called lent) list rows plan ≡ made (run lent.flags lent.vertices lent.coordinates) list rows plan
called_made lent list rows plan m long =
    made_same (Stays lent.flags rows) (called lent) (run lent.flags lent.vertices lent.coordinates)
    (λ operation ld rd rows₁ plan₁ k. called_on_map lent rows₁ plan₁ k.0 (long_same rows rows₁ lent k.1 long) operation ld rd)
    (λ operation ld rd rows₁ plan₁ k.
    let r = run_kept lent.flags lent.vertices lent.coordinates rows₁ k.0.formed k.0 operation ld rd plan₁ in
    (r.0, r.1 ∙ k.1))
    list rows plan (m, refl)

-- ---- behind the tests of size and loans

module _ (rows marks queue output flags vertices : List ℕ) (coordinates : List Float) (plan list : List ℕ) where
  pub list_broken : length list % 3 ≢ 0 → (marks₁ queue₁ : List ℕ) → marks₁ ≡ wiped (darts rows) marks → queue₁ ≡ wiped (darts rows) queue →
      outcome (Err (BadCommand 0)) (rows, marks₁, queue₁, output, plan) ≡ list_tested rows marks queue output flags vertices coordinates plan list
  unfolding list_tested
  list_broken h marks₁ queue₁ em eq = simp (em, eq, ne_eqb (length list % 3) 0 h)

  module _ (h : length list % 3 ≡ 0) {g : Test} (e : g ≡ map_test rows flags) where
    -- r is what a `?` returns
    pub list_no_map : {w : Refusal} (r : Answer) → g ≡ Err w → IsErrAnd r (λ x. x ≡ w) →
        outcome r (rows, marks, queue, output, plan) ≡ list_tested rows marks queue output flags vertices coordinates plan list
    unfolding list_tested
    list_no_map r t q = rw (eq-eqb (length list % 3) 0 h) (behind_refused e _ _ r t q)

    pub list_all : {x : ⊤} (o : Outcome CommandLoans) → g ≡ Ok x → Map rows flags → LongEnough (darts rows) (lending marks queue flags vertices coordinates) →
        o ≡ list_done (darts rows) marks queue (filled output (made (run flags vertices coordinates) list rows plan)) →
        o ≡ list_tested rows marks queue output flags vertices coordinates plan list
    unfolding list_tested
    list_all o t m long q =
        q
        ∙ ap (λ (x : Made). list_done (darts rows) marks queue (filled output x))
        (sym (called_made (lending marks queue flags vertices coordinates) list rows plan m long))
        ∙ rw (eq-eqb (length list % 3) 0 h, ← e, t) refl
