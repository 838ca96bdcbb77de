-- Where the sizes of a plan add up.
--   AddLaws    images that links have added, and the steps that these make
--   EdgeSum    the edge that a 2-sew merges
--   VertexSum  the vertex that a 1-sew merges
--   EndSum     the vertices that a 2-sew merges
--   Sums       what the sizes of their entries add up to, for a reader
pub mod AddLaws
pub mod EdgeSum
pub mod VertexSum
pub mod EndSum
pub mod Sums
