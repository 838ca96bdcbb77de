-- The laws of an image's blocks.
--   PointLaws    which slots hold points, their records, and whether they are finite
--   LaidLaws     blocks laid word by word
pub mod PointLaws
pub mod LaidLaws
