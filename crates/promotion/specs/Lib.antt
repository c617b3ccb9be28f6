-- In reading order: what settling does, what a page counts, and how the calls come out; then laws: what settling pages makes of a
-- ledger, and of the state of a memory.
pub mod Settled
pub mod Counted
pub mod Promoted
pub mod Fates
pub mod FateLaws
pub mod FateFolds
pub mod FateUnits
pub mod Altered
pub mod Walks
