-- `points::count_points` meets its contract. The loop's invariant: the points so far are counted. Assumes nothing.
use mathlib.Core.Path.{◌≡◌}
use Prim.Native.Nat.{◌-◌, ◌<◌}
use lib.ListN.{length}
use Rattle.image_blocks.specs.Image.{points}
use Rattle.image_points.proofs.points.count_points.Given as goal

abbrev pub invariant-loop-d : goal.invariant-loop-d
invariant-loop-d l = (l.v < l.d) × (l.v ≡ length (points l.vertices (l.d - 1)))
