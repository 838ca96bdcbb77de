-- The definitions of what is written.
--   Content   what an image says
pub mod Content
