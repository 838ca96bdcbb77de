-- `reader::loans_test` meets its contract: the loans of other calls, then the rows. Assumes nothing.
use Rattle.map_betas.proofs.AnswerLaws.{stops}
use Rattle.image_reader.specs.Tests.{loans_test}
use Rattle.image_reader.proofs.Accepted.{loans_rows, loans_pass}
use Rattle.image_reader.proofs.reader.loans_test.Goals as goal

pub returns-in_err-loan_test : goal.returns-in_err-loan_test
unfolding loans_test
returns-in_err-loan_test c = stops c.loan_test.ensures _ _ c.in_err-loan_test.was c.from_residual.ensures.1

pub returns-then-rows-count : goal.returns-then-rows-count
returns-then-rows-count c = loans_rows _ _ _ _ c.loan_test.ensures c.in_ok-loan_test.was c.if-rows-count.true

pub returns : goal.returns
returns c = loans_pass _ _ _ _ c.loan_test.ensures c.in_ok-loan_test.was c.if-rows-count.false
