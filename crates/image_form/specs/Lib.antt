-- The definitions of the stored image, each file over the ones before it.
--   Form    where each thing stands in the bytes, and which bytes are an image: the rules as laws
--   Tests   what refuses an image by itself, test by test
pub mod Form
pub mod Tests
