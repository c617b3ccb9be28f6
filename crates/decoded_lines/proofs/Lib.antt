pub mod Decoding
pub mod Sameness
