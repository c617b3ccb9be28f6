-- In reading order: the lists and what calls do to them, what is true of all of them, how they are kept, laws, the lists without
-- what they hold, what accesses do, and laws of that, of which spaces nothing is in the lists.
pub mod Translations
pub mod Formed
pub mod Cuts
pub mod Codes
pub mod Laws
pub mod Finding
pub mod Bare
pub mod Counted
pub mod CountedLaws
pub mod Absent
pub mod Unseen
pub mod Examples
