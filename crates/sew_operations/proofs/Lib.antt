-- The laws of the operations.
--   OperationLaws   what holds once an operation's guard has passed, and what a match has found
pub mod OperationLaws
