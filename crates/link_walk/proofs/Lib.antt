-- The laws of links and unlinks, each file over the ones before it.
--   Stores    stores in rows
--   WalkLaws  each turn of the walk
--   StepLaws  what a step does to its pair, and that it leaves a map
--   UndoLaws  what a walk leaves, and that its pairs can be set back
--   ThreeLaws each way that a 3-link or a 3-unlink ends
--   CallLaws  the tests of a call
--   Kept      what every call keeps: a map stays a map, and a refusal leaves the rows
pub mod Stores
pub mod WalkLaws
pub mod StepLaws
pub mod UndoLaws
pub mod ThreeLaws
pub mod CallLaws
pub mod Kept
