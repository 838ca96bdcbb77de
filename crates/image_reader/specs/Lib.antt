-- The definitions of the reader, each file over the ones before it.
--   Tests     what refuses an image with its loans: all tests, in order
--   Reads     what a reading answers and leaves
pub mod Tests
pub mod Reads
