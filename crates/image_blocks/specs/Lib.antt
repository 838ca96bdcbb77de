-- `Image`: the bytes of an image, block by block.
pub mod Image
