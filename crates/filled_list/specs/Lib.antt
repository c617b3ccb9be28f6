-- A block of a list that was copied to another place of it.
pub mod Copied
