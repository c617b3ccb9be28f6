-- In reading order: pieces and what is true of those of a map, how they are taken, split, merged and moved, and
-- what the table tells of them, and how they are counted.
pub mod Pieces
pub mod Changes
pub mod Laws
pub mod Settled
pub mod Blocks
pub mod Cells
pub mod Moves
pub mod Counted
pub mod Maps
