-- In reading order: the pages of one space, the view with its ledger, laws of views, and how values are told apart.
pub mod Space
pub mod View
pub mod Calls
pub mod Frames
pub mod ViewLaws
pub mod Joined
pub mod Codes
pub mod Kept
