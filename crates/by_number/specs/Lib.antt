-- In reading order: the next number that has a value, the slots that hold the values, and what a value that was lent leaves.
pub mod Values
pub mod Slots
pub mod Lends
