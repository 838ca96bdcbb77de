-- The laws of numbers in bytes.
--   Patterns   which patterns of 64 bits are finite coordinates
--   Worth      what std says that bytes are worth
--   Filled     a list made one place after the other, and a loan that is filled with it
pub mod Patterns
pub mod Worth
pub mod Filled
