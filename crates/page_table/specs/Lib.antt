-- In reading order: pages with their entries, what runs of them say of one page, runs of pages that are answered, nodes with their
-- slots and what a table is seen as, the lists of its links, how both are told apart, what is said of the next pages, and what is kept of a table.
pub mod Table
pub mod Laws
pub mod Run
pub mod Nodes
pub mod Links
pub mod Codes
pub mod Next
pub mod Kept
