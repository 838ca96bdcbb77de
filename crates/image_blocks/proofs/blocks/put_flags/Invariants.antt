-- `blocks::put_flags` meets its contract. The loop's invariant: the flags so far are laid. Assumes nothing.
use mathlib.Core.Path.{◌≡◌}
use Prim.Native.Nat.{◌+◌}
use lib.ListN.{take}
use lib.Seq.{sets}
use Rattle.image_store.specs.Stores.{stored_each}
use Rattle.image_blocks.specs.Image.{bit}
use Rattle.image_blocks.proofs.blocks.put_flags.Given as goal

abbrev pub invariant-loop-flag : goal.invariant-loop-flag
invariant-loop-flag l = (l.at ≡ l.from + l.flag-index) × (l.bytes ≡ sets l.initial.bytes l.from (stored_each bit (take l.flag-index (take l.n l.flags))))
