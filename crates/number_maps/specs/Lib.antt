-- In reading order: keys, entries before and behind a key, values under a test, values seen in another way, and maps
-- that are kept as slots by number or as rows by rising numbers.
pub mod Keys
pub mod Cuts
pub mod Values
pub mod Views
pub mod Slots
pub mod Rows
pub mod RowLaws
