-- In reading order: the words of a line, the kinds of words, items, lines, what the code's values say, and that what is printed is read back.
pub mod Words
pub mod Kinds
pub mod Items
pub mod Lines
pub mod Said
pub mod Back
