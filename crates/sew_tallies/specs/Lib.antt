-- The definitions of a tally.
--   Tallies   the least darts of pairs, and how many splits they count for
pub mod Tallies
