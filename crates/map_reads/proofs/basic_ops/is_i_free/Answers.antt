-- `basic_ops::is_i_free` meets its contract: the tests of a read, then whether the image is null. Assumes nothing.
use native.Mathlib.Omega.{arith}
use mathlib.Core.Path.{sym, ◌∙◌, ap}
use lib.Dec.{eqb}
use Rattle.map_betas.specs.Answers.{done}
use Rattle.map_betas.specs.Reads.{i_free, yes}
use Rattle.map_betas.proofs.AnswerLaws.{stops, goes_on}
use Rattle.map_betas.proofs.ReadLaws.{byte_yes, read_inside}
use Rattle.std.specs.Prelude.{is_ok}
use Rattle.map_reads.proofs.basic_ops.is_i_free.Goals as goal

pub returns-in_err-read_test : goal.returns-in_err-read_test
unfolding i_free
returns-in_err-read_test c = stops c.read_test.ensures _ _ c.in_err-read_test.was c.from_residual.ensures.1

pub beta_at-requires : goal.beta_at-requires
beta_at-requires c =
    let h = read_inside _ _ _ (ap is_ok (sym c.read_test.ensures ∙ c.in_ok-read_test.was)) in
    omega (arith, h.0, h.1)

pub returns : goal.returns
unfolding i_free
returns c =
    ap (λ x. done x 0) (c.from.ensures ∙ byte_yes _ ∙ ap (λ x. yes (eqb x 0)) c.beta_at.ensures)
    ∙ goes_on c.read_test.ensures _ c.in_ok-read_test.was
