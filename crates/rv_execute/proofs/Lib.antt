pub mod Effects
mod Examples
pub mod CodePages
