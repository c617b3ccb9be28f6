mod Sets
mod Marking
