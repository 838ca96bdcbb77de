-- The calls: what a sew or an unsew answers and leaves for any rows, flags, loans and darts.
--   SewLoans         what is left of rows, marks, queue and plan
--   sew_done          a call that is not refused by its tests: scratch is 0 on its first n places
--   sew_call          a call behind its tests, whatever its work
--   one_sew, one_unsew, two_sew, two_unsew   the calls
use Rattle.std.specs.Prelude.{ℕ, List, length}
use Rattle.std.specs.Prelude.{Float}
use Rattle.map_betas.specs.Betas.{darts}
use Rattle.map_betas.specs.Answers.{Outcome, outcome, behind, Test}
use Rattle.map_betas.specs.Guards.{scratch_of, vertex_loans, guard_of}
use Rattle.cell_steps.specs.Calls.{wiped}
use Rattle.sew_ground.specs.Sewn.{Work, Sewn, sewn}
use Rattle.sew_ground.specs.One.{one_sew_on, one_unsew_on}
use Rattle.sew_ground.specs.Two.{two_sew_on, two_unsew_on}

abbrev pub SewLoans : Type 0
SewLoans = List ℕ × List ℕ × List ℕ × List ℕ

-- what a sew or unsew leaves once its tests have passed: scratch is wiped, whatever the answer (scope: scratch)
abbrev pub sew_done : ℕ → List ℕ → List ℕ → Sewn → Outcome SewLoans
sew_done n marks queue s = outcome s.answer (s.rows, wiped n marks, wiped n queue, s.plan)

abbrev pub sew_call : Test → List ℕ → List ℕ → List ℕ → List ℕ → Work → Outcome SewLoans
sew_call g rows marks queue plan w = behind g (rows, marks, queue, plan) (sew_done (darts rows) marks queue (sewn rows plan w))

abbrev pub sew_guard : List ℕ → List ℕ → List ℕ → List ℕ → ℕ → ℕ → Test
sew_guard rows marks queue flags ld rd = guard_of rows flags (scratch_of (length marks) (length queue)) 1 ld rd

unfoldable pub one_sew : List ℕ → List ℕ → List ℕ → List ℕ → List ℕ → ℕ → ℕ → Outcome SewLoans
one_sew rows marks queue flags plan ld rd = sew_call (sew_guard rows marks queue flags ld rd) rows marks queue plan (one_sew_on rows ld rd)

unfoldable pub one_unsew : List ℕ → List ℕ → List ℕ → List ℕ → List ℕ → ℕ → Outcome SewLoans
one_unsew rows marks queue flags plan ld = sew_call (sew_guard rows marks queue flags ld ld) rows marks queue plan (one_unsew_on rows ld)

-- the 2-sew has the vertices too
unfoldable pub two_sew : List ℕ → List ℕ → List ℕ → List ℕ → List ℕ → List Float → List ℕ → ℕ → ℕ → Outcome SewLoans
two_sew rows marks queue flags vertices coordinates plan ld rd =
    sew_call (guard_of rows flags (vertex_loans (length marks) (length queue) (length vertices) (length coordinates)) 1 ld rd) rows marks queue plan
    (two_sew_on vertices coordinates rows ld rd)

unfoldable pub two_unsew : List ℕ → List ℕ → List ℕ → List ℕ → List ℕ → ℕ → Outcome SewLoans
two_unsew rows marks queue flags plan ld = sew_call (sew_guard rows marks queue flags ld ld) rows marks queue plan (two_unsew_on rows ld)
