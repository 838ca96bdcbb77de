-- The laws of an edge as a walk, each file over the ones before it.
--   ArmLaws    an arm, turn by turn
--   WalkLaws   the walk meets every dart of the edge exactly once
--   AlongLaws  a loop that follows an arm
--   CoreLaws   the loop of the core, and the cell that it finds
pub mod ArmLaws
pub mod WalkLaws
pub mod AlongLaws
pub mod CoreLaws
