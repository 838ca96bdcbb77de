-- `header::header_test` meets its contract: words 0 and 1, then the others. Assumes nothing.
use mathlib.Core.Path.{sym, ◌∙◌, ap}
use Rattle.image_form.proofs.HeaderLaws.{start_whole}
use Rattle.map_betas.proofs.AnswerLaws.{stops, goes_on}
use Rattle.std.specs.Prelude.{is_ok}
use Rattle.image_header.proofs.header.header_test.Goals as goal

pub returns-in_err-start_test : goal.returns-in_err-start_test
returns-in_err-start_test c = stops c.start_test.ensures _ _ c.in_err-start_test.was c.from_residual.ensures.1

pub layout_test-requires : goal.layout_test-requires
layout_test-requires c = (start_whole _ (ap is_ok (sym c.start_test.ensures ∙ c.in_ok-start_test.was))).1

pub returns : goal.returns
returns c = c.layout_test.ensures ∙ goes_on c.start_test.ensures _ c.in_ok-start_test.was
