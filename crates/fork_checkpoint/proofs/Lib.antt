pub mod Sums
pub mod Leaving
pub mod Shares
pub mod Runs
