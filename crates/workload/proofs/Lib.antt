pub mod Rounds
pub mod Fields
