-- In reading order: numbers in a list, and what numbers that rise have.
pub mod Numbers
pub mod Rising
