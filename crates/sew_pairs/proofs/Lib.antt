-- The laws of the 3-unsew.
--   Relink      a 3-link after a 3-unlink gives back every row
--   PairLaws    the splits of one pair
--   LegLaws     the legs, turn by turn
--   FewLaws     how many pairs there are, and how many entries
--   SplitLaws   the plan, part by part
--   UnsewLaws   how a 3-unsew ends, and that it leaves a map
--   Ends        no leg is cut short
--   Parted      the pairs are those that the 3-unlink has parted
--   Agree       the proved examples
pub mod Relink
pub mod PairLaws
pub mod LegLaws
pub mod FewLaws
pub mod SplitLaws
pub mod UnsewLaws
pub mod Ends
pub mod Parted
pub mod Agree
