-- The laws of writing and reading together.
--   Flagged    which flags a map may have instead of its own
--   Slots      the slots that hold points, as a list that ascends
--   Image      what stands where in the bytes of an image
--   Reading    what the reader makes of them
--   Writing    what the writer makes of what was read
--   Demand     the theorems: there and back, back and there, and the same bytes
pub mod Flagged
pub mod Slots
pub mod Image
pub mod Reading
pub mod Writing
pub mod Demand
