-- `reader::blocks_test` meets its contract: the first of the three tests that refuses. Assumes nothing.
use mathlib.Core.Path.{◌∙◌}
use Rattle.map_betas.proofs.AnswerLaws.{stops, goes_on}
use Rattle.image_reader.specs.Tests.{blocks_test}
use Rattle.image_reader.proofs.reader.blocks_test.Goals as goal

pub returns-in_err-flags_test : goal.returns-in_err-flags_test
unfolding blocks_test
returns-in_err-flags_test c = stops c.flags_test.ensures _ _ c.in_err-flags_test.was c.from_residual.ensures.1

pub returns-in_err-vertices_test : goal.returns-in_err-vertices_test
unfolding blocks_test
returns-in_err-vertices_test c =
    stops c.vertices_test.ensures _ _ c.in_err-vertices_test.was c.from_residual-in_err-vertices_test.ensures.1
    ∙ goes_on c.flags_test.ensures _ c.in_ok-flags_test.was

pub returns : goal.returns
unfolding blocks_test
returns c =
    c.map_test.ensures ∙ goes_on c.vertices_test.ensures _ c.in_ok-vertices_test.was
    ∙ goes_on c.flags_test.ensures _ c.in_ok-flags_test.was
