-- `basic_ops::is_free` meets its contract: the tests of a read, then whether all images are null. Assumes nothing.
use mathlib.Core.Path.{sym, ◌∙◌, ap}
use Rattle.map_betas.specs.Answers.{done}
use Rattle.map_betas.specs.Reads.{is_free, yes}
use Rattle.map_betas.proofs.AnswerLaws.{stops, goes_on}
use Rattle.map_betas.proofs.ReadLaws.{byte_yes, read_inside}
use Rattle.std.specs.Prelude.{is_ok}
use Rattle.map_reads.proofs.basic_ops.is_free.Goals as goal

pub returns-in_err-read_test : goal.returns-in_err-read_test
unfolding is_free
returns-in_err-read_test c = stops c.read_test.ensures _ _ c.in_err-read_test.was c.from_residual.ensures.1

pub free_at-requires : goal.free_at-requires
free_at-requires c =
    (read_inside _ 0 _ (ap is_ok (sym c.read_test.ensures ∙ c.in_ok-read_test.was))).1

pub returns : goal.returns
unfolding is_free
returns c =
    ap (λ x. done x 0) (c.from.ensures ∙ byte_yes _ ∙ ap yes c.free_at.ensures)
    ∙ goes_on c.read_test.ensures _ c.in_ok-read_test.was
