-- `header::start_test` meets its contract: each return is one of the cases of `start_test`. Assumes nothing.
use native.Mathlib.Omega.{arith}
use Rattle.image_form.proofs.HeaderLaws.{start_short, start_form, start_cut, start_total, start_pass}
use Rattle.image_header.proofs.header.start_test.Goals as goal

pub returns-then-k-lt4 : goal.returns-then-k-lt4
returns-then-k-lt4 c = start_short _ (omega arith)

pub returns-then-word_at-ne-FORM : goal.returns-then-word_at-ne-FORM
returns-then-word_at-ne-FORM c = start_form _ (omega arith) (omega arith)

pub returns-then-k-lt28 : goal.returns-then-k-lt28
returns-then-k-lt28 c = start_cut _ (omega arith) (omega arith) (omega arith)

pub returns-then-word_at-k : goal.returns-then-word_at-k
returns-then-word_at-k c = start_total _ (omega arith) (omega arith) (omega arith) (omega arith)

pub returns : goal.returns
returns c = start_pass _ (omega arith) (omega arith) (omega arith) (omega arith)
