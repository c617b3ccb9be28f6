pub mod DiscardWalk
pub mod Marks
