-- The laws of the list of the Face orbits, each file over the ones before it.
--   ListLaws   what lists of orbits hold, for a reader, and the Face orbits beside the faces as the Rust lists them
--   Demand     what the call answers on a map, and that a refusal leaves every loan
--   Examples   worked examples, computed
pub mod ListLaws
pub mod Demand
pub mod Examples
