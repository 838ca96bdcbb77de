-- What a writing answers and leaves.
--   write_test     what refuses a map before its image is measured
--   written       an image laid from the start of a loan, where it fits
--   write_image    the writing
--   Writable      what holds of a map and its loans exactly where only room can be missing (`proofs/WriteLaws.antt`)
use Rattle.std.specs.Prelude.{ℕ, ◌*◌, ◌-◌, ◌≤◌, ◌≡◌, List, true, cond, length, get_or, eqb, ltb, Float, Err}
use Rattle.std.proofs.lemmas.List.Edits.{sets}
use Rattle.map_betas.specs.declared.error.Refusal.TheVariants.{ImageRoom}
use Rattle.map_betas.specs.Betas.{darts}
use Rattle.map_betas.specs.Maps.{Map}
use Rattle.map_betas.specs.Answers.{Outcome, outcome, pass, behind, done, Test}
use Rattle.map_betas.specs.Guards.{reader_loans, guard_of}
use Rattle.image_form.specs.Tests.{unless}
use Rattle.image_blocks.specs.Image.{finite_from, image_of}
use Rattle.std.specs.Result.{result_and}

-- scope: writer. The map and the loans, then the flag of dart 0, then the points.
unfoldable pub write_test : List ℕ → List ℕ → List ℕ → List Float → Test
write_test rows flags vertices coordinates =
    result_and (guard_of rows flags (reader_loans (length vertices) (length coordinates)) 0 0 0)
    (unless (eqb (get_or flags 0 0) 0) 7 (unless (finite_from vertices coordinates 1 (darts rows - 1)) 8 pass))

-- scope: writer. How many bytes it is, laid or not.
unfoldable pub written : List ℕ → List ℕ → Outcome (List ℕ)
written image bytes =
    cond (ltb (length bytes) (length image)) (outcome (Err (ImageRoom (length image))) bytes) (outcome (done 0 (length image)) (sets bytes 0 image))

unfoldable pub write_image : List ℕ → List ℕ → List ℕ → List Float → List ℕ → Outcome (List ℕ)
write_image rows flags vertices coordinates bytes =
    behind (write_test rows flags vertices coordinates) bytes (written (image_of rows flags vertices coordinates) bytes)

pub record Writable (rows flags vertices : List ℕ) (coordinates : List Float) : Type 0 where
  pub map : Map rows flags
  pub mark_room : darts rows ≤ length vertices
  pub coordinate_room : 3 * darts rows ≤ length coordinates
  pub null : get_or flags 0 0 ≡ 0
  pub finite : finite_from vertices coordinates 1 (darts rows - 1) ≡ true
