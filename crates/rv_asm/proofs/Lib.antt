pub mod Labelling
pub mod Unlabelled
pub mod Coding
pub mod Reaching
pub mod Loading
pub mod Deciding
pub mod Texts
mod Examples
