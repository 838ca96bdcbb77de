-- The definitions of links and unlinks, each file over the ones before it.
--   Walk      a step at a pair of darts, and the walk along two faces
--   Undo      what sets a walk back after a refusal
--   Three     the 3-link and the 3-unlink of real darts of a map
--   Calls     the six calls, for any rows and any darts
-- What a 3-link asks and what it does without a walk is in the crate `link_glue`, `specs/Matching.antt`.
pub mod Walk
pub mod Undo
pub mod Three
pub mod Calls
