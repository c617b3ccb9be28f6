-- In reading order: what memories are seen as, and what becomes of translations; whether units fit, how reads and stores come out, and what they come to piece by piece, and pages that are put on other pages; then laws: of states,
-- of pages that are there and of their frames, of what own lines count and how many a page has, of what a line that is put touches and comes to, and of what is true of every memory.
pub mod View
pub mod Code
pub mod Codes
pub mod Translated
pub mod Room
pub mod Access
pub mod Epochs
pub mod Fronts
pub mod Pieces
pub mod Rebased
pub mod FoundLaws
pub mod StateMemory
pub mod PageLaws
pub mod ApartLaws
pub mod CountLaws
pub mod TouchLaws
pub mod PutLaws
pub mod SmallLaws
pub mod Joined
pub mod Walked
