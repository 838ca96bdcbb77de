-- The definitions of the 3-unsew, each file over the ones before it.
--   Pairs      the splits of one pair of darts, and of the pairs of a leg
--   Three      the 3-unsew
--   Calls      the call, for any rows, loans and darts
--   Examples   the table of proved examples
pub mod Pairs
pub mod Three
pub mod Calls
pub mod Examples
