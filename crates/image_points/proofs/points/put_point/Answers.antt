-- `points::put_point` meets its contract: a record where the slot holds a point, else nothing. Assumes nothing.
use native.Mathlib.Omega.{arith}
use Rattle.image_blocks.proofs.PointLaws.{point_parts}
use Rattle.image_blocks.proofs.LaidLaws.{nothing_laid, something_laid, something_room}
use Rattle.image_points.proofs.points.put_point.Goals as goal

pub put_record-requires : goal.put_record-requires
put_record-requires c = (
  something_room _ _ _ (omega arith) _ _ c.requires.0,
  omega arith,
  omega arith,
  point_parts _ _ _ (omega arith)
      c.requires.4,
)

pub returns-then-vertices-d-ne0 : goal.returns-then-vertices-d-ne0
returns-then-vertices-d-ne0 c = something_laid _ _ _ (omega arith) _ _ _ c.put_record.ensures

pub returns : goal.returns
returns c = nothing_laid _ _ _ _ _ (omega arith)
