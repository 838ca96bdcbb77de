-- How a 3-unsew ends, from what its parts have left.
--   three_refused   the 3-unlink refused
--   three_dart      the dart that was answered is the image of ld
--   three_ready     the rows that the 3-unlink has left, and the darts of the 3-link that undoes it
--   three_tight     the plan has no room, and the rows are linked again
--   three_done      done
--   three_kept      a 3-unsew leaves rows that are well formed and as many, done or refused, and links no dart that was free
--   call_three_unsew_kept      so the call leaves a map a map, whatever its loans and its dart
--   call_three_unsew_refused   a refused call leaves rows and plan as they were
-- Assumes nothing.
use Rattle.std.specs.Prelude.{◌≡◌, ℕ, ◌/◌, ◌<◌, Bool, true, false, ◌≢◌, List, length, is_ok}
use native.Mathlib.Omega.{arith}
use mathlib.Core.Path.{sym, ap, ◌∙◌}
use Rattle.map_betas.specs.Betas.{beta, darts}
use Rattle.map_betas.specs.Answers.{Out, out, Answer}
use Rattle.map_betas.specs.Guards.{Dart, scratch_of}
use Rattle.map_betas.specs.Maps.{WellFormed, Map, Keeps, Stays}
use Rattle.link_walk.specs.Three.{three_link_on, three_unlink_on}
use Rattle.link_walk.proofs.Kept.{unlink_kept, three_on_unmoved}
use Rattle.sew_ground.specs.Sewn.{leaves, dart_of, settles, settled, sewn}
use Rattle.sew_ground.proofs.SewnLaws.{ends_refused, ends_tight, ends_done}
use Rattle.sew_ground.specs.Calls.{sew_guard}
use Rattle.sew_ground.proofs.Demand.{sew_refused, sew_kept}
use Rattle.sew_pairs.specs.Three.{three_entries, three_unsew_on}
use Rattle.sew_pairs.specs.Calls.{three_unsew}
use Rattle.sew_pairs.proofs.Relink.{had_image, answers, relinks}

module _ (rows : List ℕ) (ld : ℕ) (a : Answer) (rows₁ : List ℕ) (e : out a rows₁ ≡ three_unlink_on rows ld) (w : WellFormed rows)
    (d : Dart (darts rows) 1 ld) where
  real : ld ≢ 0
  real = let h = d.allowed in omega arith

  is_answer : a ≡ (three_unlink_on rows ld).answer
  is_answer = ap (λ (o : Out). o.answer) e

  is_rows : rows₁ ≡ (three_unlink_on rows ld).rows
  is_rows = ap (λ (o : Out). o.rows) e

  said : (b : Bool) → is_ok a ≡ b → is_ok (three_unlink_on rows ld).answer ≡ b
  said b t = ap is_ok (sym is_answer) ∙ t

  pub three_refused : (plan : List ℕ) → is_ok a ≡ false → leaves a rows₁ plan ≡ sewn rows plan (three_unsew_on rows ld)
  unfolding three_unsew_on
  three_refused plan t = ends_refused rows plan _ a rows₁ is_answer (is_rows ∙ three_on_unmoved rows ld (said false t)) t

  module _ (t : is_ok a ≡ true) (rd : ℕ) (er : rd ≡ dart_of a) where
    pub three_dart : rd ≡ beta rows 3 ld
    three_dart = er ∙ ap dart_of (is_answer ∙ answers rows ld w real d.below (said true t))

    pub three_ready : WellFormed rows₁ × (0 < ld) × (ld < darts rows₁) × (0 < rd) × (rd < darts rows₁)
    three_ready =
        let k = unlink_kept rows ld w d.below real in
        let n : darts rows₁ ≡ darts rows = ap (λ (x : List ℕ). length x / 4) is_rows ∙ ap (λ (x : ℕ). x / 4) k.1 in
        let i = had_image rows ld w real d.below (said true t) in
        let hl = d.below in
        let hr = w.below 3 ld in
        let q = three_dart in
        (rw is_rows k.0, d.allowed, omega arith, omega arith, omega arith)

    module _ (plan : List ℕ) (b : Answer) (plan₁ : List ℕ) (s : settles b plan₁ ≡ settled plan rd (three_entries rows₁ ld rd)) where
      dart : rd ≡ dart_of (three_unlink_on rows ld).answer
      dart = er ∙ ap dart_of is_answer

      entries : three_entries rows₁ ld rd ≡ three_entries (three_unlink_on rows ld).rows ld (dart_of (three_unlink_on rows ld).answer)
      entries = ap (λ (x : List ℕ). three_entries x ld rd) is_rows ∙ ap (three_entries (three_unlink_on rows ld).rows ld) dart

      pub three_tight : (u : Answer) (rows₂ : List ℕ) → out u rows₂ ≡ three_link_on rows₁ ld rd → is_ok b ≡ false →
          leaves b rows₂ plan₁ ≡ sewn rows plan (three_unsew_on rows ld)
      unfolding three_unsew_on
      three_tight u rows₂ f g =
          ends_tight rows plan _ (said true t) rd (three_entries rows₁ ld rd) dart entries b plan₁ s rows₂
          (ap (λ (o : Out). o.rows) f ∙ ap (λ (x : List ℕ). (three_link_on x ld rd).rows) is_rows
          ∙ ap (λ (x : ℕ). (three_link_on (three_unlink_on rows ld).rows ld x).rows) three_dart
          ∙ ap (λ (o : Out). o.rows) (relinks rows ld w real d.below (said true t))) g

      pub three_done : is_ok b ≡ true → leaves b rows₁ plan₁ ≡ sewn rows plan (three_unsew_on rows ld)
      unfolding three_unsew_on
      three_done g = ends_done rows plan _ (said true t) rd (three_entries rows₁ ld rd) dart entries b plan₁ s rows₁ is_rows g

-- what a 3-unsew leaves
pub three_kept : (rows : List ℕ) (ld : ℕ) → WellFormed rows → Dart (darts rows) 1 ld → Keeps ld ld rows (three_unsew_on rows ld).rows
unfolding three_unsew_on
three_kept rows ld w d = let h = d.allowed in unlink_kept rows ld w d.below (omega arith)

module _ (rows marks queue flags plan : List ℕ) (ld : ℕ) where
  pub call_three_unsew_kept : Map rows flags → Stays flags rows (three_unsew rows marks queue flags plan ld).loans.0
  unfolding three_unsew
  call_three_unsew_kept m =
      sew_kept rows flags marks queue plan (scratch_of (length marks) (length queue)) ld ld (three_unsew_on rows ld) m (λ d e. three_kept rows ld m.formed d)

  pub call_three_unsew_refused : is_ok (three_unsew rows marks queue flags plan ld).answer ≡ false →
      ((three_unsew rows marks queue flags plan ld).loans.0 ≡ rows) × ((three_unsew rows marks queue flags plan ld).loans.3 ≡ plan)
  unfolding three_unsew
  call_three_unsew_refused = sew_refused (sew_guard rows marks queue flags ld ld) rows marks queue plan (three_unsew_on rows ld)
