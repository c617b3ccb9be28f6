-- In reading order: what a fork and a restore make, and how the calls come out; then laws: the pages below one.
pub mod Copied
pub mod Parts
