-- `blocks::put_words` meets its contract. The loop's invariant: the words so far are laid. Assumes nothing.
use native.Mathlib.Omega.{arith}
use Rattle.image_store.specs.Stores.{stored}
use Rattle.image_store.proofs.Stored.{stored_length, each_none, each_step}
use Rattle.image_blocks.proofs.blocks.put_words.Goals as goal

pub loop-row-init : goal.loop-row-init
loop-row-init c = (omega arith, each_none (stored 4) c.args.bytes.now c.args.from c.args.rows.now)

pub loop-row-preserved : goal.loop-row-preserved
loop-row-preserved c = (
  omega arith,
  each_step (stored 4) 4 (stored_length 4) 0 c.args.rows.now c.loop-row.row-index _ _ _ _ _ (omega arith) c.loop-row.invariant.0 c.loop-row.invariant.1
      c.put_word.ensures,
)
