-- Packing, and what moves lead to.
pub mod Packing
