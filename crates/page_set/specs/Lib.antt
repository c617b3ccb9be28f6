-- In reading order: sets of pages by chunks, laws for the crates above, how sets are told apart as values, and what is kept of one.
pub mod Sets
pub mod Laws
pub mod Codes
pub mod Kept
