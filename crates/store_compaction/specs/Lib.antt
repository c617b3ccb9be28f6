-- Moves, one after the other, what they lead to, and which move comes next.
pub mod Runs
pub mod Next
