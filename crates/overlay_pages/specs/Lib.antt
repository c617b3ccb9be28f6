-- In reading order: the lines and bytes of a page, the state of all spaces and what changes it, what a memory is seen as, and laws.
pub mod Lines
pub mod LineLaws
pub mod State
pub mod Changes
pub mod View
pub mod Calls
pub mod Steps
pub mod Spots
pub mod SpotLaws
pub mod ViewLaws
pub mod SharedLaws
pub mod TableLaws
pub mod Codes
