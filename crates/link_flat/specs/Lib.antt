-- The definitions of the link and the unlink of one pair.
--   Flat   either by any beta: what the calls do by beta 1 and 2, and the refusal of any other
pub mod Flat
