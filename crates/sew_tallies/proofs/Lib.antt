-- The laws of a tally.
--   TallyLaws   a tally pair by pair, and what it says of the entries
pub mod TallyLaws
