-- The definitions of a command's answer.
--   Words   its five numbers, and the output that holds them
pub mod Words
