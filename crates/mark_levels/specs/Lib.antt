-- In reading order: a level of bytes and their bits, what it keeps, and that the levels above it are smaller.
pub mod Levels
pub mod Kept
pub mod Falls
