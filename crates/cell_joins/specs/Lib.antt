-- The definitions of what joins the queue of a list.
--   Joins   a dart's cell, and a volume whose chains do not end
pub mod Joins
