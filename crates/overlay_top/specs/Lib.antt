-- In reading order: what the words set, how a call ends, what it comes to, where all of it is in order, and what its parts read, send and ask for.
pub mod Words
pub mod WordsExamples
pub mod Reading
pub mod Status
pub mod Outcome
pub mod InOrder
pub mod Sending
pub mod Printing
pub mod Outside
pub mod Running
pub mod Ends
pub mod Unbounded
pub mod Examples
