-- The definitions of numbers in bytes.
--   Lists   lists that are made one place after the other
--   Words   words, double words and coordinates; many words or bytes one behind another
pub mod Lists
pub mod Words
