-- In reading order: the lines of a script, the words of a line, numbers, the kinds of words, the table of
-- forms and its law, and what a script says.
pub mod Lines
pub mod Words
pub mod Numbers
pub mod Kinds
pub mod Forms
pub mod FormLaws
pub mod Script
pub mod Given
pub mod Examples
