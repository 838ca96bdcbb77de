-- The laws of a writing.
--   WriteLaws    where the tests pass, how long the image is, and that its blocks are laid
pub mod WriteLaws
