-- `orbits::custom_test` meets its contract: the test of the betas from a place on is the whole test. Assumes nothing.
use Rattle.std.specs.Prelude.{◌≡◌, drop}
use Rattle.cell_steps.specs.Calls.{custom_test}
use Rattle.cell_orbits.proofs.orbits.custom_test.Given as goal

abbrev pub invariant-loop-b : goal.invariant-loop-b
invariant-loop-b l = custom_test (drop l.b-index l.betas) ≡ custom_test l.betas
