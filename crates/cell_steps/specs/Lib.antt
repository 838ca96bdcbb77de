-- The definitions of orbits, each file over the ones before it.
--   Steps    where a step leads, and the steps of each policy
--   Search   the search, breadth first, and the orbit that it lists
--   Cgal     the orbit and the cells of the CGAL manual
--   Idents   the least dart of an orbit, and how many darts it has
--   Loans    what holds of the scratch and of the output that the cores are lent
--   Calls    what a call answers, and what it leaves of its loans
pub mod Steps
pub mod Search
pub mod Cgal
pub mod Idents
pub mod Loans
pub mod Calls
