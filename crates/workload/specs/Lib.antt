-- In reading order: the draws of a seed, the script that they make, and the file that it loads.
pub mod Draws
pub mod Script
pub mod File
pub mod Examples
