-- In reading order: the place of a name, and what a list is kept as.
pub mod Places
pub mod Listed
