-- `Trips`: what is given back where an image is written and read.
pub mod Trips
