-- `Stores`: what numbers are stored as, and how bytes are read as numbers, over any width.
pub mod Stores
