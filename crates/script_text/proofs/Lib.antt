pub mod Cuts
pub mod Spaces
pub mod Values
pub mod Rows
pub mod Meanings
pub mod Pairs
pub mod Ranges
pub mod Scripts
