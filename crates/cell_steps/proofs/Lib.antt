-- The laws of orbits, each file over the ones before it.
--   Lists        membership, no repeats, pigeonhole
--   ChainLaws    within n steps a chain comes to null or round, each dart once
--   StepLaws     steps
--   SearchLaws   the search
--   OrbitLaws    what an orbit's list is, for every list of steps
--   CgalLaws     the steps of a cell reach the CGAL manual's cell
--   IdentLaws    the least dart
--   QueueLaws    the queue and its marks
--   TurnLaws     the loops of the search
--   VisitLaws    visits whose steps are written out
--   ScratchLaws  scratch that is wiped and lent on
--   CallLaws     the calls, case by case
--   CellLaws     what orbits are, for a reader
--   SizeLaws     how many darts a cell has
--   JoinLaws     two orbits that become one
--   Examples     worked examples, computed
pub mod Lists
pub mod ChainLaws
pub mod StepLaws
pub mod SearchLaws
pub mod OrbitLaws
pub mod CgalLaws
pub mod IdentLaws
pub mod QueueLaws
pub mod TurnLaws
pub mod VisitLaws
pub mod ScratchLaws
pub mod CallLaws
pub mod CellLaws
pub mod SizeLaws
pub mod JoinLaws
pub mod Examples
