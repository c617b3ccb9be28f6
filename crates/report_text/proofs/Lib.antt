pub mod Places
pub mod Blocks
pub mod Chains
pub mod Words
pub mod Plain
