-- What a call answers, and what it leaves of its loans.
--   id_done, list_done     a call that is not refused
--   id_call, list_call     the calls, for each class
use Rattle.std.specs.Prelude.{ℕ, List, length}
use Rattle.map_betas.specs.Betas.{darts}
use Rattle.map_betas.specs.Answers.{Outcome, outcome, behind, done, Test}
use Rattle.map_betas.specs.Guards.{scratch_of, list_loans, guard_of}
use Rattle.cell_steps.specs.Calls.{wiped, headed}
use Rattle.cell_steps.specs.declared.cells.Class.{Class}
use Rattle.cell_names.specs.Cells.{identified, list_of}

-- what an identifier answers and leaves once its tests have passed: name and size (scope: identifier, scratch)
abbrev pub id_done : List ℕ → List ℕ → List ℕ → Class → ℕ → Outcome (List ℕ × List ℕ)
id_done rows marks queue class d =
    outcome (done (identified class rows d).least (identified class rows d).count) (wiped (darts rows) marks, wiped (darts rows) queue)

abbrev pub id_guard : List ℕ → List ℕ → List ℕ → List ℕ → ℕ → Test
id_guard rows marks queue flags d = guard_of rows flags (scratch_of (length marks) (length queue)) 0 d d

unfoldable pub id_call : List ℕ → List ℕ → List ℕ → List ℕ → Class → ℕ → Outcome (List ℕ × List ℕ)
id_call rows marks queue flags class d = behind (id_guard rows marks queue flags d) (marks, queue) (id_done rows marks queue class d)

-- the count is the list's own length, and the output beyond it stays as it was
abbrev pub list_done : List ℕ → List ℕ → List ℕ → List ℕ → List ℕ → Class → Outcome (List ℕ × List ℕ × List ℕ)
list_done rows marks queue output flags class =
    outcome (done 0 (length (list_of class rows flags)))
    (wiped (darts rows) marks, wiped (darts rows) queue, headed (list_of class rows flags) output)

abbrev pub list_guard : List ℕ → List ℕ → List ℕ → List ℕ → List ℕ → Test
list_guard rows marks queue output flags = guard_of rows flags (list_loans (length marks) (length queue) (length output)) 0 0 0

unfoldable pub list_call : List ℕ → List ℕ → List ℕ → List ℕ → List ℕ → Class → Outcome (List ℕ × List ℕ × List ℕ)
list_call rows marks queue output flags class =
    behind (list_guard rows marks queue output flags) (marks, queue, output) (list_done rows marks queue output flags class)
