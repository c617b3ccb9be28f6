-- In reading order: counts by frame, and laws for the crates above.
pub mod Counts
pub mod Laws
