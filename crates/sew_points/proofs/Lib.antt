-- The worked examples of the geometry test.
pub mod Examples
