-- The laws of cell lists, each file over the ones before it.
--   KnownLaws     going through the darts in order, an unmarked one is the least of its cell
--   ListingLaws   the loop of the list, and scratch at its end
--   MemberLaws    what a list holds, and that it ascends
pub mod KnownLaws
pub mod ListingLaws
pub mod MemberLaws
