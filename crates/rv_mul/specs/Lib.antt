-- In reading order: what each row makes of two values, and the tables.
pub mod Multiplication
pub mod Tables
