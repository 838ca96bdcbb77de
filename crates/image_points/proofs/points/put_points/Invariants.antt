-- `points::put_points` meets its contract. The loop's invariant: the records so far are laid. Assumes nothing.
use mathlib.Core.Path.{◌≡◌}
use Prim.Native.Nat.{◌+◌, ◌*◌, ◌-◌}
use lib.ListN.{length}
use lib.Seq.{sets}
use Rattle.image_store.specs.Stores.{stored_each}
use Rattle.image_blocks.specs.Image.{points, record_bytes}
use Rattle.image_points.proofs.points.put_points.Given as goal

abbrev pub invariant-loop-d : goal.invariant-loop-d
invariant-loop-d l =
    (l.at ≡ l.from + 28 * length (points l.vertices (l.d - 1)))
    × (l.bytes ≡ sets l.initial.bytes l.from (stored_each (record_bytes l.coordinates) (points l.vertices (l.d - 1))))
