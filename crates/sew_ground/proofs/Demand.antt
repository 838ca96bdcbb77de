-- What the calls of sews and unsews leave, for a reader, whatever they are lent.
--   sew_refused    a refused call leaves rows and plan as they were
--   sew_kept       a call leaves a map a map
--   call_one_sew_kept, call_one_unsew_kept, call_two_sew_kept, call_two_unsew_kept   each of the calls
--   call_one_sew_refused, .. each of the calls, refused
-- Assumes nothing.
use Rattle.std.specs.Prelude.{◌≡◌, ℕ, Bool, true, false, cond, leb, List, length, Err, Ok, is_ok}
use native.Mathlib.Omega.{arith}
use mathlib.Core.Path.{refl, ap}
use mathlib.Core.Bool.{true≢false}
use lib.Ieee.{Float}
use Rattle.map_betas.specs.declared.error.Refusal.TheVariants.{PlanRoom}
use Rattle.map_betas.specs.declared.loans.Loans.{Loans}
use Rattle.map_betas.specs.Betas.{darts}
use Rattle.map_betas.specs.Answers.{behind, Test, done}
use Rattle.map_betas.specs.Maps.{Map, Keeps, Stays}
use Rattle.map_betas.specs.Guards.{scratch_of, vertex_loans, guard_of, Dart}
use Rattle.map_betas.proofs.GuardLaws.{ready}
use Rattle.map_betas.proofs.Spared.{kept_map}
use Rattle.sew_plan.specs.Plan.{room_of, put_plan}
use Rattle.sew_ground.specs.Sewn.{Work, Sewn, leaves, dart_of, settles, settled, after_plan, sewn}
use Rattle.sew_ground.specs.Calls.{sew_done, sew_call, sew_guard, one_sew, one_unsew, two_sew, two_unsew}
use Rattle.sew_ground.specs.One.{one_sew_on, one_unsew_on}
use Rattle.sew_ground.specs.Two.{two_sew_on, two_unsew_on}
use Rattle.sew_ground.proofs.SewKept.{sewn_kept, one_sew_kept, one_unsew_kept, two_sew_kept, two_unsew_kept}

module _ (rows plan : List ℕ) (w : Work) where
  -- what is left, by whether the work is done and whether its entries fit
  abbrev left_by : Bool → Bool → Sewn
  left_by a b =
      cond a
      (after_plan rows w.rows
      (cond b (settles (done (dart_of w.answer) (length w.entries)) (put_plan w.entries plan))
      (settles (Err (PlanRoom (length w.entries))) plan)))
      (leaves w.answer rows plan)

  -- a work that is refused, by itself or by the plan's room
  sewn_refused : is_ok (sewn rows plan w).answer ≡ false → ((sewn rows plan w).rows ≡ rows) × ((sewn rows plan w).plan ≡ plan)
  unfolding sewn settled
  sewn_refused = go (is_ok w.answer) (leb (length w.entries) (room_of plan))
    where
      go : (a b : Bool) → is_ok (left_by a b).answer ≡ false → ((left_by a b).rows ≡ rows) × ((left_by a b).plan ≡ plan)
      go false b t = (refl, refl)
      go true false t = (refl, refl)
      go true true t = absurd (true≢false t)

module _ (g : Test) (rows marks queue plan : List ℕ) (w : Work) where
  pub sew_refused : is_ok (sew_call g rows marks queue plan w).answer ≡ false →
      ((sew_call g rows marks queue plan w).loans.0 ≡ rows) × ((sew_call g rows marks queue plan w).loans.3 ≡ plan)
  sew_refused = go g
    where
      go : (h : Test) → is_ok (sew_call h rows marks queue plan w).answer ≡ false →
          ((sew_call h rows marks queue plan w).loans.0 ≡ rows) × ((sew_call h rows marks queue plan w).loans.3 ≡ plan)
      go (Ok x) t = sewn_refused rows plan w t
      go (Err x) t = (refl, refl)

-- a call leaves a map a map, done or refused: the tests have found its darts in use, and its work spares every other dart that is free
module _ (rows flags marks queue plan : List ℕ) (loans : Loans) (a b : ℕ) (w : Work) (m : Map rows flags)
    (k : Dart (darts rows) 1 a → Dart (darts rows) 1 b → Keeps a b rows w.rows) where
  pub sew_kept : Stays flags rows (sew_call (guard_of rows flags loans 1 a b) rows marks queue plan w).loans.0
  sew_kept = go (guard_of rows flags loans 1 a b) refl
    where
      go : (g : Test) → guard_of rows flags loans 1 a b ≡ g →
          Stays flags rows (behind g (rows, marks, queue, plan) (sew_done (darts rows) marks queue (sewn rows plan w))).loans.0
      go (Ok x) t =
          let r = ready rows flags loans 1 a b (ap is_ok t) in
          kept_map a b rows flags _ m (r.used_left (omega arith)) (r.used_right (omega arith))
          (sewn_kept a b rows plan m.formed w (k r.left r.right))
      go (Err x) t = (m, refl)

module _ (rows marks queue flags plan : List ℕ) (ld : ℕ) where
  module _ (m : Map rows flags) where
    pub call_one_sew_kept : (rd : ℕ) → Stays flags rows (one_sew rows marks queue flags plan ld rd).loans.0
    unfolding one_sew
    call_one_sew_kept rd =
        sew_kept rows flags marks queue plan (scratch_of (length marks) (length queue)) ld rd (one_sew_on rows ld rd) m (one_sew_kept rows ld m.formed rd)

    pub call_one_unsew_kept : Stays flags rows (one_unsew rows marks queue flags plan ld).loans.0
    unfolding one_unsew
    call_one_unsew_kept =
        sew_kept rows flags marks queue plan (scratch_of (length marks) (length queue)) ld ld (one_unsew_on rows ld) m (λ x y. one_unsew_kept rows ld m.formed)

    pub call_two_sew_kept : (vertices : List ℕ) (coordinates : List Float) (rd : ℕ) →
        Stays flags rows (two_sew rows marks queue flags vertices coordinates plan ld rd).loans.0
    unfolding two_sew
    call_two_sew_kept vertices coordinates rd =
        sew_kept rows flags marks queue plan (vertex_loans (length marks) (length queue) (length vertices) (length coordinates)) ld rd
        (two_sew_on vertices coordinates rows ld rd) m (two_sew_kept rows ld m.formed vertices coordinates rd)

    pub call_two_unsew_kept : Stays flags rows (two_unsew rows marks queue flags plan ld).loans.0
    unfolding two_unsew
    call_two_unsew_kept =
        sew_kept rows flags marks queue plan (scratch_of (length marks) (length queue)) ld ld (two_unsew_on rows ld) m (λ x y. two_unsew_kept rows ld m.formed)

  pub call_one_sew_refused : (rd : ℕ) → is_ok (one_sew rows marks queue flags plan ld rd).answer ≡ false →
      ((one_sew rows marks queue flags plan ld rd).loans.0 ≡ rows) × ((one_sew rows marks queue flags plan ld rd).loans.3 ≡ plan)
  unfolding one_sew
  call_one_sew_refused rd = sew_refused (sew_guard rows marks queue flags ld rd) rows marks queue plan (one_sew_on rows ld rd)

  pub call_one_unsew_refused : is_ok (one_unsew rows marks queue flags plan ld).answer ≡ false →
      ((one_unsew rows marks queue flags plan ld).loans.0 ≡ rows) × ((one_unsew rows marks queue flags plan ld).loans.3 ≡ plan)
  unfolding one_unsew
  call_one_unsew_refused = sew_refused (sew_guard rows marks queue flags ld ld) rows marks queue plan (one_unsew_on rows ld)

  pub call_two_sew_refused : (vertices : List ℕ) (coordinates : List Float) (rd : ℕ) →
      is_ok (two_sew rows marks queue flags vertices coordinates plan ld rd).answer ≡ false →
      ((two_sew rows marks queue flags vertices coordinates plan ld rd).loans.0 ≡ rows)
      × ((two_sew rows marks queue flags vertices coordinates plan ld rd).loans.3 ≡ plan)
  unfolding two_sew
  call_two_sew_refused vertices coordinates rd =
      sew_refused (guard_of rows flags (vertex_loans (length marks) (length queue) (length vertices) (length coordinates)) 1 ld rd) rows marks queue plan
      (two_sew_on vertices coordinates rows ld rd)

  pub call_two_unsew_refused : is_ok (two_unsew rows marks queue flags plan ld).answer ≡ false →
      ((two_unsew rows marks queue flags plan ld).loans.0 ≡ rows) × ((two_unsew rows marks queue flags plan ld).loans.3 ≡ plan)
  unfolding two_unsew
  call_two_unsew_refused = sew_refused (sew_guard rows marks queue flags ld ld) rows marks queue plan (two_unsew_on rows ld)
