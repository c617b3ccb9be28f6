pub mod Members
pub mod All
