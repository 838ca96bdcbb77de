-- `guard::guard` meets its contract: the tests of the map, then those of the darts. Assumes nothing.
use mathlib.Core.Path.{sym, ◌∙◌, ap}
use Rattle.map_betas.specs.Guards.{guard_of}
use Rattle.map_betas.proofs.AnswerLaws.{stops, goes_on}
use Rattle.map_betas.proofs.GuardLaws.{mapped}
use Rattle.std.specs.Prelude.{is_ok}
use Rattle.map_guard.proofs.guard.guard.Goals as goal

pub returns-in_err-map_guard : goal.returns-in_err-map_guard
unfolding guard_of
returns-in_err-map_guard c = stops c.map_guard.ensures _ _ c.in_err-map_guard.was c.from_residual.ensures.1

pub dart_test-requires : goal.dart_test-requires
dart_test-requires c = (mapped _ _ _ (ap is_ok (sym c.map_guard.ensures ∙ c.in_ok-map_guard.was))).0.flagged

pub returns : goal.returns
unfolding guard_of
returns c = c.dart_test.ensures ∙ goes_on c.map_guard.ensures _ c.in_ok-map_guard.was
