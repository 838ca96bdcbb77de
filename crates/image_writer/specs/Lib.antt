-- `Writes`: what a writing answers and leaves.
pub mod Writes
