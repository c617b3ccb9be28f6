pub mod Divided
pub mod Meanings
mod Examples
