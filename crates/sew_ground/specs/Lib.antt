-- The definitions of the sews, each file over the ones before it.
--   Entries   entries that are there or not, and a plan with entries written behind each other
--   Sewn      what a sew or an unsew leaves: its work, and the room that the plan must have
--   One       the 1-sew and the 1-unsew
--   Two       the 2-sew and the 2-unsew
--   Calls     the calls, for any rows, loans and darts
pub mod Entries
pub mod Sewn
pub mod One
pub mod Two
pub mod Calls
