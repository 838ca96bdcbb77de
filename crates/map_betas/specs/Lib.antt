-- The definitions of the 3-map's ground, each file over the ones before it.
--   Betas    rows as a list of numbers: `beta`, the number of darts, the beta that leads back
--   Chains   going on by one beta, and the face chain of a dart
--   Answers  what a call answers and leaves; the number and the values of each answer
--   Flat     an answer as it crosses to C
--   Maps     the size test, the rules, the first breach, `WellFormed`
--   Guards   the tests that every call makes before its work
--   Cores    the link core and the unlink core, once over the beta
--   Reads    beta read and free tests
pub mod Betas
pub mod Chains
pub mod Answers
pub mod Flat
pub mod Maps
pub mod Guards
pub mod Cores
pub mod Reads
