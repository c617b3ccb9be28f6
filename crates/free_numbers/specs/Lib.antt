-- In reading order: numbers in sets, and what is kept of them.
pub mod Numbers
pub mod Kept
