-- The laws of identifiers and lists.
--   IdentifierLaws   what identifiers and lists are, for a reader
--   Demand           what the calls answer on a map, and that a refusal leaves every loan
--   Examples         worked examples, computed
pub mod IdentifierLaws
pub mod Demand
pub mod Examples
