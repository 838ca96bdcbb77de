-- The list of the Face orbits, what its call answers, and what it leaves of its loans.
--   face_orbits rows flags   the list
--   face_orbits_done         a call that is not refused
--   face_orbits_call         the call
use Rattle.std.specs.Prelude.{ℕ, List, length}
use Rattle.map_betas.specs.Betas.{darts}
use Rattle.map_betas.specs.Answers.{Outcome, outcome, behind, done}
use Rattle.cell_steps.specs.Steps.{face}
use Rattle.cell_steps.specs.Idents.{ident}
use Rattle.cell_steps.specs.Calls.{wiped, headed}
use Rattle.cell_lists.specs.CellLists.{cells_by}
use Rattle.cell_names.specs.Calls.{list_guard}

-- the darts from 1 to n - 1 that are not unused and are the least of their Face orbit, ascending
abbrev pub face_orbits : List ℕ → List ℕ → List ℕ
face_orbits rows flags = cells_by (ident rows face) (darts rows) flags

-- the count is the list's own length, scratch is wiped, and the output beyond the list stays as it was
abbrev pub face_orbits_done : List ℕ → List ℕ → List ℕ → List ℕ → List ℕ → Outcome (List ℕ × List ℕ × List ℕ)
face_orbits_done rows marks queue output flags =
    outcome (done 0 (length (face_orbits rows flags)))
    (wiped (darts rows) marks, wiped (darts rows) queue, headed (face_orbits rows flags) output)

-- loans, tests and refusals are those of the other lists
unfoldable pub face_orbits_call : List ℕ → List ℕ → List ℕ → List ℕ → List ℕ → Outcome (List ℕ × List ℕ × List ℕ)
face_orbits_call rows marks queue output flags =
    behind (list_guard rows marks queue output flags) (marks, queue, output) (face_orbits_done rows marks queue output flags)
