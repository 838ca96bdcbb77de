-- What an orbit call answers, and what it leaves of its loans.
--   wiped n l         l with its first n places 0
--   headed l out      out with l in its first places
--   orbit_done         an orbit call that is not refused
--   custom_test betas  refuses the first value of a Custom list that is no beta
--   orbit_call, custom_call   the calls
use Rattle.std.specs.Prelude.{ℕ, cond, List, [], ◌∷◌, ◌++◌, ltb, length, drop, replicate, Err}
use Rattle.map_betas.specs.declared.error.Refusal.TheVariants.{BadBeta}
use Rattle.map_betas.specs.Betas.{darts}
use Rattle.map_betas.specs.Answers.{pass, Outcome, outcome, behind, done, Test}
use Rattle.map_betas.specs.Guards.{orbit_loans, guard_of}
use Rattle.cell_steps.specs.declared.policy.OrbitPolicy.{OrbitPolicy}
use Rattle.cell_steps.specs.Steps.{steps_of}
use Rattle.cell_steps.specs.Search.{orbit}
use Rattle.std.specs.Result.{result_and}

-- scope: scratch. The first n places are 0, and the rest is as it was.
abbrev pub wiped : ℕ → List ℕ → List ℕ
wiped n l = replicate n 0 ++ drop n l

-- a list from the start of a loan, whose other places stay as they were
abbrev pub headed : List ℕ → List ℕ → List ℕ
headed l out = l ++ drop (length l) out

-- the count is the orbit's own length
abbrev pub orbit_done : List ℕ → List ℕ → List ℕ → List ℕ → ℕ → Outcome (List ℕ × List ℕ)
orbit_done rows marks output steps d =
    outcome (done 0 (length (orbit rows steps d))) (wiped (darts rows) marks, headed (orbit rows steps d) output)

-- refusal 5 says the first number in the list that is no beta
unfoldable pub custom_test : List ℕ → Test
custom_test [] = pass
custom_test (b ∷ bs) =
    let more = custom_test bs in
    cond (ltb 3 b) (Err (BadBeta b)) more

abbrev pub orbit_guard : List ℕ → List ℕ → List ℕ → List ℕ → ℕ → Test
orbit_guard rows marks output flags d = guard_of rows flags (orbit_loans (length marks) (length output)) 0 d d

unfoldable pub orbit_call : List ℕ → List ℕ → List ℕ → List ℕ → OrbitPolicy → ℕ → Outcome (List ℕ × List ℕ)
orbit_call rows marks output flags policy d =
    behind (orbit_guard rows marks output flags d) (marks, output) (orbit_done rows marks output (steps_of policy) d)

-- an orbit by lent betas, which are tested after the darts (scope: steps, order)
unfoldable pub custom_call : List ℕ → List ℕ → List ℕ → List ℕ → List ℕ → ℕ → Outcome (List ℕ × List ℕ)
custom_call rows marks output flags betas d =
    behind (result_and (orbit_guard rows marks output flags d) (custom_test betas)) (marks, output) (orbit_done rows marks output betas d)
