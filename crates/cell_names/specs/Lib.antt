-- The definitions of identifiers and cell lists.
--   Cells   the identifier and the list of each class
--   Calls   what a call answers, and what it leaves of its loans
pub mod Cells
pub mod Calls
