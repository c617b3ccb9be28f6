-- In reading order: the names of overlays, and laws for the crates above.
pub mod Names
pub mod Laws
