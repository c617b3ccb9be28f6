-- In reading order: what may be done with a page, what a memory is, what an access is, what
-- memories are page by page, laws of finite maps by number and of memories page by page, and then what
-- lies outside the machine.
pub mod Permissions
pub mod Memory
pub mod PageBytes
pub use Rattle.number_maps.specs.Keys
pub mod MemoryLaws
pub mod Outside
pub mod Forms
pub mod Adapters
