-- `basic_ops::read_test` meets its contract: the first of the tests that refuses. Assumes nothing.
use mathlib.Core.Path.{refl, ap, ◌∙◌}
use Rattle.map_betas.specs.Answers.{Test}
use Rattle.std.specs.Result.{result_and}
use Rattle.map_betas.specs.Reads.{read_test, beta_test}
use Rattle.map_betas.proofs.AnswerLaws.{stops, goes_on}
use Rattle.map_betas.proofs.ReadLaws.{range_refused, range_passed, beta_refused, beta_passed}
use Rattle.map_reads.proofs.basic_ops.read_test.Goals as goal

pub returns-in_err-size_test : goal.returns-in_err-size_test
unfolding read_test
returns-in_err-size_test c = stops c.size_test.ensures _ _ c.in_err-size_test.was c.from_residual.ensures.1

pub returns-then-rows-d : goal.returns-then-rows-d
unfolding read_test
returns-then-rows-d c =
    ap (λ (t : Test). result_and t (beta_test c.args.i)) (range_refused _ _ c.if-rows-d.true)
    ∙ goes_on c.size_test.ensures _ c.in_ok-size_test.was

pub returns-then-i-gt3 : goal.returns-then-i-gt3
unfolding read_test
returns-then-i-gt3 c =
    beta_refused _ c.if-i-gt3.true
    ∙ goes_on (range_passed _ _ c.if-rows-d.false) _ refl
    ∙ goes_on c.size_test.ensures _ c.in_ok-size_test.was

pub returns : goal.returns
unfolding read_test
returns c =
    beta_passed _ c.if-i-gt3.false
    ∙ goes_on (range_passed _ _ c.if-rows-d.false) _ refl
    ∙ goes_on c.size_test.ensures _ c.in_ok-size_test.was
