-- `blocks::put_words` meets its contract. The loop's invariant: the words so far are laid. Assumes nothing.
use mathlib.Core.Path.{◌≡◌}
use Prim.Native.Nat.{◌+◌, ◌*◌}
use lib.ListN.{take}
use lib.Seq.{sets}
use Rattle.image_store.specs.Stores.{words}
use Rattle.image_blocks.proofs.blocks.put_words.Given as goal

abbrev pub invariant-loop-row : goal.invariant-loop-row
invariant-loop-row l = (l.at ≡ l.from + 4 * l.row-index) × (l.bytes ≡ sets l.initial.bytes l.from (words (take l.row-index l.rows)))
