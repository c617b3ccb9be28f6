pub mod Breaks
pub mod Rans
mod Stretches
pub mod Stretching
pub mod Ports
