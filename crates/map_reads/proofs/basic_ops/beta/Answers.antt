-- `basic_ops::beta` meets its contract: the tests of a read, then the image. Assumes nothing.
use native.Mathlib.Omega.{arith}
use mathlib.Core.Path.{sym, ◌∙◌, ap}
use Rattle.map_betas.specs.Answers.{done}
use Rattle.map_betas.specs.Reads.{beta_read}
use Rattle.map_betas.proofs.AnswerLaws.{stops, goes_on}
use Rattle.map_betas.proofs.ReadLaws.{read_inside}
use Rattle.std.specs.Prelude.{is_ok}
use Rattle.map_reads.proofs.basic_ops.beta.Goals as goal

pub returns-in_err-read_test : goal.returns-in_err-read_test
unfolding beta_read
returns-in_err-read_test c = stops c.read_test.ensures _ _ c.in_err-read_test.was c.from_residual.ensures.1

pub beta_at-requires : goal.beta_at-requires
beta_at-requires c =
    let h = read_inside _ _ _ (ap is_ok (sym c.read_test.ensures ∙ c.in_ok-read_test.was)) in
    omega (arith, h.0, h.1)

pub returns : goal.returns
unfolding beta_read
returns c =
    ap (λ x. done x 0) c.beta_at.ensures ∙ goes_on c.read_test.ensures _ c.in_ok-read_test.was
