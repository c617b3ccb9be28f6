pub mod Calls
pub mod Fields
pub mod Kept
pub mod Memory
