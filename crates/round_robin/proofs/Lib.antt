pub mod Choices
pub mod Turning
