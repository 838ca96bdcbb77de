-- The laws of the reader, each file over the ones before it.
--   Accepted   the tests pass exactly for images of maps, with loans that are long enough
--   ReadLaws   each case of a reading
--   Written    what a reading answers and writes
--   Examples   the image of the closed triangle, and refusals
pub mod Accepted
pub mod ReadLaws
pub mod Written
pub mod Examples
