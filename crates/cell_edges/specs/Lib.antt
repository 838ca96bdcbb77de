-- The definitions of an edge as a walk.
--   Arms   an arm of an edge, what ends it, and the walk of both
pub mod Arms
