-- `copy_words` meets its contract. The loop's invariant: the words so far, and the rest as it was. Assumes nothing.
use native.Mathlib.Omega.{arith}
use mathlib.Core.Path.{ap, ◌∙◌}
use Prim.Native.Nat.{ℕ, ◌+◌, ◌*◌}
use lib.ListN.{length}
use Rattle.image_words.specs.Words.{word32}
use Rattle.image_words.proofs.Filled.{fill_none, fill_more, fill_all}
use Rattle.image_fill.proofs.copy_words.Goals as goal

pub loop-row-init : goal.loop-row-init
loop-row-init c = (omega arith, fill_none _ _)

pub loop-row-preserved : goal.loop-row-preserved
loop-row-preserved c =
    let a = c.args in
    let l = c.loop-row in (
      omega arith,
      fill_more (λ (k : ℕ). word32 a.bytes.now (a.from + 4 * k)) a.rows.now l.row-items l.row-index c.word_at.result (omega arith)
          l.invariant.1 (c.word_at.ensures ∙ ap (word32 a.bytes.now) l.invariant.0),
    )

pub returns : goal.returns
returns c =
    let a = c.args in
    let l = c.loop-row in
    fill_all (λ (k : ℕ). word32 a.bytes.now (a.from + 4 * k)) a.rows.now l.row-items l.row-index (length a.rows.now) (omega arith) (omega arith)
    l.invariant.1
