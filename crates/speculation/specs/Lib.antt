-- What speculation does, and how the calls come out.
pub mod Speculated
