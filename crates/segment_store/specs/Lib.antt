-- In reading order: the line of pointers, what a store is seen as and what is true of every store, what the calls change, and laws
-- for the crates above.
pub mod Pointers
pub mod Store
pub mod Places
pub mod Kept
pub mod Changes
pub mod Laws
pub mod Runs
