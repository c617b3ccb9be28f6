-- In reading order: labels, what items come to, the file of words, the whole of it, and what the parts of the code answer.
pub mod Labels
pub mod Outcomes
pub mod File
pub mod Assembly
pub mod Given
