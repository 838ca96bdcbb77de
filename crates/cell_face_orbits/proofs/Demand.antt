-- What the call of the Face orbits answers, for a reader.
--   call_face_orbits       it writes exactly the darts that are not unused and are the least of their Face orbit, ascending
--   call_regular           where every face of darts in use is regular, it and the Rust's list of faces are one
--   face_orbits_refused    a refused call leaves every loan
-- Each but the last for a map and loans that are long enough. Assumes nothing.
use Rattle.std.specs.Prelude.{◌≡◌, ℕ, ◌<◌, ◌≤◌, false, ◌↔◌, List, length, get_or, is_ok}
use native.Mathlib.Omega.{arith}
use mathlib.Core.Path.{refl, sym, ap, ◌∙◌}
use Rattle.map_betas.specs.Betas.{darts}
use Rattle.map_betas.specs.Answers.{pass, Outcome, outcome, behind, done, Test}
use Rattle.map_betas.specs.Maps.{WellFormed, Map}
use Rattle.map_betas.specs.Guards.{list_loans, Dart}
use Rattle.map_betas.proofs.AnswerLaws.{refused_leaves}
use Rattle.map_betas.proofs.Guarded.{guard_iff}
use Rattle.cell_steps.specs.declared.cells.Class.TheVariants.{Face}
use Rattle.cell_steps.specs.Steps.{face}
use Rattle.cell_steps.specs.Search.{In}
use Rattle.cell_steps.specs.Idents.{ident}
use Rattle.cell_steps.specs.Calls.{wiped, headed}
use Rattle.cell_lists.specs.CellLists.{Ascending}
use Rattle.cell_lists.proofs.MemberLaws.{Own}
use Rattle.cell_faces.specs.Faces.{Regular}
use Rattle.cell_names.specs.Calls.{list_guard, list_done, list_call}
use Rattle.cell_face_orbits.specs.FaceOrbits.{face_orbits, face_orbits_done, face_orbits_call}
use Rattle.cell_face_orbits.proofs.ListLaws.{listed_exactly, listed_ascending, face_same}

module _ (rows flags marks : List ℕ) (map : Map rows flags) (m : darts rows ≤ length marks) where
  w : WellFormed rows
  w = map.formed

  module _ (queue output : List ℕ) (q : darts rows ≤ length queue) (o : darts rows ≤ length output) where
    list_passes : list_guard rows marks queue output flags ≡ pass
    list_passes =
        let few = w.sized.few in
        let null : Dart (darts rows) 0 0 = record { allowed = omega arith; below = w.sized.some } in
        (guard_iff rows flags (list_loans (length marks) (length queue) (length output)) 0 0 0).1
        (record {
          map = map;
          lent = record { marks = m; queue = q; output = o; vertices = omega arith; coordinates = omega arith };
          left = null;
          right = null;
          used_left = λ o. absurd (omega arith);
          used_right = λ o. absurd (omega arith);
        })

    orbits_done : face_orbits_call rows marks queue output flags ≡ face_orbits_done rows marks queue output flags
    unfolding face_orbits_call
    orbits_done = ap (λ (g : Test). behind g (marks, queue, output) (face_orbits_done rows marks queue output flags)) list_passes

    faces_done : list_call rows marks queue output flags Face ≡ list_done rows marks queue output flags Face
    unfolding list_call
    faces_done = ap (λ (g : Test). behind g (marks, queue, output) (list_done rows marks queue output flags Face)) list_passes

    -- what a list's call writes and answers
    abbrev pub Lists : Outcome (List ℕ × List ℕ × List ℕ) → (ℕ → ℕ) → Type 0
    Lists called id = (l : List ℕ) × (called ≡ outcome (done 0 (length l)) (wiped (darts rows) marks, wiped (darts rows) queue, headed l output))
        × Ascending l × ((x : ℕ) → In x l ↔ ((1 ≤ x) × (x < darts rows) × Own id flags x))

    -- the list is of the least dart of each face that has a dart in use
    pub call_face_orbits : Lists (face_orbits_call rows marks queue output flags) (ident rows face)
    call_face_orbits = (face_orbits rows flags, orbits_done, listed_ascending rows flags Face, listed_exactly rows flags Face)

    -- where every face of darts in use is regular, the two calls of faces are one
    pub call_regular : ((d : ℕ) → 1 ≤ d → d < darts rows → get_or flags d 0 ≡ 0 → Regular rows d) →
        face_orbits_call rows marks queue output flags ≡ list_call rows marks queue output flags Face
    call_regular all =
        orbits_done
        ∙ ap (λ (l : List ℕ). outcome (done 0 (length l)) (wiped (darts rows) marks, wiped (darts rows) queue, headed l output)) (face_same rows flags w all)
        ∙ sym faces_done

-- ---- a refused call, whatever it is lent

module _ (rows marks flags : List ℕ) where
  pub face_orbits_refused : (queue output : List ℕ) → is_ok (face_orbits_call rows marks queue output flags).answer ≡ false →
      (face_orbits_call rows marks queue output flags).loans ≡ (marks, queue, output)
  unfolding face_orbits_call
  face_orbits_refused queue output =
      refused_leaves (list_guard rows marks queue output flags) (marks, queue, output) (face_orbits_done rows marks queue output flags) refl
