-- The laws of the links and unlinks by their names.
--   LinkLaws   a call is its core behind its tests; a map stays a map; what its answer may say
pub mod LinkLaws
