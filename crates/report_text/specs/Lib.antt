-- In reading order: numbers and texts as characters, printed names, instructions, and then the lines, one by one.
pub mod Digits
pub mod Names
pub mod Texts
pub mod Instructions
pub mod Lines
pub mod Answers
pub mod FullLines
pub mod Examples
