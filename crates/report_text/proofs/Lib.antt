-- The laws of text.
--   TextLaws   text behind text in a buffer, and the digits of a number
--   Numbers    what digits are worth, how many there are, and examples
pub mod TextLaws
pub mod Numbers
