-- The call: what a 3-unsew answers and leaves for any rows, flags, loans and dart.
--   three_unsew   the call behind its tests; `sew_call` is of the crate `sew_ground`
use Rattle.std.specs.Prelude.{ℕ, List}
use Rattle.map_betas.specs.Answers.{Outcome}
use Rattle.sew_ground.specs.Calls.{SewLoans, sew_call, sew_guard}
use Rattle.sew_pairs.specs.Three.{three_unsew_on}

unfoldable pub three_unsew : List ℕ → List ℕ → List ℕ → List ℕ → List ℕ → ℕ → Outcome SewLoans
three_unsew rows marks queue flags plan ld =
    sew_call (sew_guard rows marks queue flags ld ld) rows marks queue plan (three_unsew_on rows ld)
