-- The laws of the stored image, each file over the ones before it.
--   HeaderLaws   each case of the header test; a header passes exactly where it has the form
--   FlagLaws     the same of the flags
--   VertexLaws   the same of the vertex records
--   StoredLaws   the rows and flags in the bytes are rows and flags: each case of the map test
pub mod HeaderLaws
pub mod FlagLaws
pub mod VertexLaws
pub mod StoredLaws
