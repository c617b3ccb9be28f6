-- In reading order: spaces by number, options, what is at a place after each change, their pages seen in another way, their ledger, and how they
-- are told apart.
pub mod Spaces
pub mod Options
pub mod Laws
pub mod Mapped
pub mod Books
pub mod Codes
