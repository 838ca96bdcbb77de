-- `commands::lent_test` meets its contract: the first of both tests that refuses. Assumes nothing.
use mathlib.Core.Path.{sym, ap, ◌∙◌}
use Rattle.map_betas.proofs.AnswerLaws.{stops, goes_on}
use Rattle.map_betas.proofs.Formed.{size_done}
use Rattle.sew_commands.specs.Calls.{commands_lent}
use Rattle.std.specs.Prelude.{is_ok}
use Rattle.sew_list_calls.proofs.commands.lent_test.Goals as goal

pub returns-in_err-size_test : goal.returns-in_err-size_test
unfolding commands_lent
returns-in_err-size_test c = stops c.size_test.ensures _ _ c.in_err-size_test.was c.from_residual.ensures.1

pub loan_test-requires : goal.loan_test-requires
loan_test-requires c = (size_done c.args.rows.now (ap is_ok (sym c.size_test.ensures ∙ c.in_ok-size_test.was))).few

pub returns : goal.returns
unfolding commands_lent
returns c = c.loan_test.ensures ∙ goes_on c.size_test.ensures _ c.in_ok-size_test.was
