-- The definitions of the operations.
--   Operations   the work of each operation, its loans, and what it leaves behind its tests
pub mod Operations
