mod Awaiting
pub mod Small
