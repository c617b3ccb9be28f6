-- In reading order: homes of names, slots with rows, what a table shows, how tables are told apart, what is kept of them, what
-- probes and shifts ask and say, and lists with a gap.
pub mod Homes
pub mod Rows
pub mod Table
pub mod Codes
pub mod Kept
pub mod Probes
pub mod Shifts
pub mod Gaps
