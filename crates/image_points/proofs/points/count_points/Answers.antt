-- `points::count_points` meets its contract. The loop's invariant: the points so far are counted. Assumes nothing.
use mathlib.Core.Path.{◌∙◌}
use native.Mathlib.Omega.{arith}
use Rattle.image_blocks.proofs.PointLaws.{count_none, count_more}
use Rattle.image_points.proofs.points.count_points.Goals as goal

pub loop-d-init : goal.loop-d-init
loop-d-init c = (omega arith, count_none _)

pub loop-d-preserved : goal.loop-d-preserved
loop-d-preserved c = (omega arith, count_more _ _ _ _ (omega arith) c.loop-d.invariant.1 (c.from-v.ensures ∙ c.bit_of.ensures.0))
