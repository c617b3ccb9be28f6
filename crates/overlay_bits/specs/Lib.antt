-- In reading order: sets of lines, pages composed by them, laws for the crates above, and how a set is kept.
pub mod Lines
pub mod Below
pub mod Composed
pub mod Laws
pub mod Kept
