-- The definitions of text.
--   Texts   numbers in decimal, text in a buffer, the lines of a report
pub mod Texts
