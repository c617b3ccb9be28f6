-- In reading order: which addresses a process has, and what adding one and taking one away leave; marks of the words with addresses.
pub mod Breakpoints
pub mod Marks
