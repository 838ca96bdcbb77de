-- `reader::image_test` meets its contract: the first of the tests that refuses. Assumes nothing.
use native.Mathlib.Omega.{arith}
use Prim.Native.Nat.{ℕ}
use mathlib.Core.Path.{sym, ap, ◌∙◌}
use Rattle.map_betas.proofs.AnswerLaws.{stops, goes_on}
use Rattle.image_form.proofs.HeaderLaws.{header_done}
use Rattle.image_form.specs.Form.{darts_of}
use Rattle.image_reader.specs.Tests.{loans_test, blocks_test, image_test}
use Rattle.image_reader.proofs.reader.image_test.Goals as goal
use Rattle.std.specs.Prelude.{is_ok}

pub returns-in_err-header_test : goal.returns-in_err-header_test
unfolding image_test
returns-in_err-header_test c = stops c.header_test.ensures _ _ c.in_err-header_test.was c.from_residual.ensures.1

pub darts_of-n-requires : goal.darts_of-n-requires
darts_of-n-requires c =
    let h = header_done _ _ (ap is_ok (sym c.header_test.ensures ∙ c.in_ok-header_test.was)) in
    (omega (arith, h.whole), omega (arith, h.few))

pub returns-in_err-loans_test : goal.returns-in_err-loans_test
unfolding image_test
returns-in_err-loans_test c =
    let args = c.args in
    stops (c.loans_test.ensures ∙ ap (λ (k : ℕ). loans_test k args.flags args.loans args.rows) c.darts_of-n.ensures) _ _
    c.in_err-loans_test.was c.from_residual-in_err-loans_test.ensures.1
    ∙ goes_on c.header_test.ensures _ c.in_ok-header_test.was

pub word_at-requires : goal.word_at-requires
word_at-requires c = omega (arith, (header_done _ _ (ap is_ok (sym c.header_test.ensures ∙ c.in_ok-header_test.was))).whole)

pub blocks_test-requires : goal.blocks_test-requires
blocks_test-requires c =
    let h = header_done _ _ (ap is_ok (sym c.header_test.ensures ∙ c.in_ok-header_test.was)) in
    (omega (arith, h.some), omega (arith, h.fits))

pub returns : goal.returns
unfolding image_test
returns c =
    let args = c.args in
    c.blocks_test.ensures ∙ ap (λ (k : ℕ). blocks_test args.bytes.now k c.word_at.result) c.darts_of-n.ensures
    ∙ ap (blocks_test args.bytes.now (darts_of args.bytes.now)) c.word_at.ensures
    ∙ goes_on (c.loans_test.ensures ∙ ap (λ (k : ℕ). loans_test k args.flags args.loans args.rows) c.darts_of-n.ensures) _
    c.in_ok-loans_test.was
    ∙ goes_on c.header_test.ensures _ c.in_ok-header_test.was
