-- The theorems of the glue, each file over the ones before it. Start with `Demand`.
--   Turns          how a leg of the walk goes on
--   Trace          what a leg that ends well did, pair by pair
--   Mirror         a 3-unlink walks back what a 3-link did
--   Success        the two ways in which a 3-link or a 3-unlink is done
--   Restore        a 3-unlink after a 3-link restores every row
--   Covers         the darts of a walk are the face chain; the closed face
--   OpenCover      the open face
--   Found          what a 3-link and a 3-unlink that are done did
--   Fresh          a leg whose pairs ahead are still to change ends well
--   Asked          what a 3-link and a 3-unlink ask is enough
--   Unique         a matching is unique
--   UnlinkAnswers  what a 3-unlink can answer
--   Demand         all of it, of the calls and of their cores
--   Agree          the proved examples
pub mod Turns
pub mod Trace
pub mod Mirror
pub mod Success
pub mod Restore
pub mod Covers
pub mod OpenCover
pub mod Found
pub mod Fresh
pub mod Asked
pub mod Unique
pub mod UnlinkAnswers
pub mod Demand
pub mod Agree
