-- What is kept beside lines.
pub mod Decoded
