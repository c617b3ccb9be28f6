-- In reading order: which delta a space has over a base; a space that is made of a base and a delta, and how the call comes out; then laws: entries by number,
-- a space that is made in a ledger, the ledger after an import, and rows of it with one more page or line.
pub mod Gathered
pub mod Built
pub mod Fitted
pub mod Finding
pub mod Made
pub mod Imported
pub mod Rows
