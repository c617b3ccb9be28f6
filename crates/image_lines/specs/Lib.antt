-- In reading order: digits, and what each is as a character; the lines that say bytes, what is printed line by line; how a file is read as lines; what a file says,
-- with its laws; lines and files as the checker computes them.
pub mod Digits
pub mod DigitLaws
pub mod Lines
pub mod PrintedLaws
pub mod Reading
pub mod Said
pub mod SaidLaws
pub mod Examples
