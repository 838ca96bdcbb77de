-- What the glue is, without a walk, and its worked examples.
--   Matching   what a 3-link and a 3-unlink ask and do: the manual of the glue
--   Examples   the table of worked examples
pub mod Matching
pub mod Examples
