-- `put_records` meets its contract. The loop's invariant: what the records still to come make of the slots is what all of them make. Assumes nothing.
use mathlib.Core.Path.{◌≡◌}
use Prim.Native.Nat.{◌+◌, ◌*◌, ◌-◌}
use Rattle.image_fill.specs.Content.{slots, put_records}
use Rattle.image_fill.proofs.put_records.Given as goal

abbrev pub invariant-loop-k : goal.invariant-loop-k
invariant-loop-k l =
    put_records l.v l.bytes l.from (slots l.initial.marks l.initial.coordinates)
    ≡ put_records (l.v - l.k) l.bytes (l.from + 28 * l.k) (slots l.marks l.coordinates)
