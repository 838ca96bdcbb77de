-- The definitions of the links and unlinks by their names.
--   Links   what each does, the call of its name, the dart that stands second, and what its answer may say
pub mod Links
