-- `guard::map_guard` meets its contract: the first of the tests that refuses. Assumes nothing.
use mathlib.Core.Path.{sym, ◌∙◌, ap}
use Rattle.map_betas.specs.Guards.{map_guard}
use Rattle.map_betas.proofs.AnswerLaws.{stops, goes_on}
use Rattle.map_betas.proofs.Formed.{size_done}
use Rattle.map_betas.proofs.GuardLaws.{lent}
use Rattle.std.specs.Prelude.{is_ok}
use Rattle.map_guard.proofs.guard.map_guard.Goals as goal

pub returns-in_err-size_test : goal.returns-in_err-size_test
unfolding map_guard
returns-in_err-size_test c = stops c.size_test.ensures _ _ c.in_err-size_test.was c.from_residual.ensures.1

pub loan_test-requires : goal.loan_test-requires
loan_test-requires c = (size_done c.args.rows.now (ap is_ok (sym c.size_test.ensures ∙ c.in_ok-size_test.was))).few

pub returns-in_err-loan_test : goal.returns-in_err-loan_test
unfolding map_guard
returns-in_err-loan_test c =
    stops c.loan_test.ensures _ _ c.in_err-loan_test.was c.from_residual-in_err-loan_test.ensures.1
    ∙ goes_on c.size_test.ensures _ c.in_ok-size_test.was

pub map_test-requires : goal.map_test-requires
map_test-requires c = (
  size_done _ (ap is_ok (sym c.size_test.ensures ∙ c.in_ok-size_test.was)),
  (lent _ _ _ (ap is_ok (sym c.loan_test.ensures ∙ c.in_ok-loan_test.was))).0,
)

pub returns : goal.returns
unfolding map_guard
returns c = c.map_test.ensures ∙ goes_on c.loan_test.ensures _ c.in_ok-loan_test.was ∙ goes_on c.size_test.ensures _ c.in_ok-size_test.was
