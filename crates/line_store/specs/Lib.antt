-- Lists of lines, what the calls on a region do to them and laws of that, what a region keeps of them, and its memory.
pub mod Lines
pub mod LineLaws
pub mod Kept
pub mod Memory
pub mod Lends
