-- The laws of the sews.
--   EntryLaws   entries that are there or not, and entries written behind each other
--   SideLaws    a side from what the code has read
--   OneLaws     the links of a 1-sew and the unlinks of a 1-unsew
--   OneBack     those links as a whole: refusals, darts, well-formedness, and that the code undoes them
--   OneRows     the rows that a part of a sew has left are a map
--   SewnLaws    each way in which a sew ends
--   EndLaws     how each sew and unsew ends
--   CallLaws    a call behind its tests
--   SewKept     a sew leaves a map a map
--   Demand      so do the calls, and a refusal leaves rows and plan
pub mod EntryLaws
pub mod SideLaws
pub mod OneLaws
pub mod OneBack
pub mod OneRows
pub mod SewnLaws
pub mod EndLaws
pub mod CallLaws
pub mod SewKept
pub mod Demand
