-- In reading order: the copying machine's state, what a session keeps, what a change is and comes to, what a fork makes, what speculation
-- and promotion make of a process, checkpoints and their images, what the debugger changes, all changes, what puts pages on others, the turns of processes, what each command comes to
-- and by which cases, and what is looked up.
pub mod State
pub mod Sessions
pub mod Kept
pub mod Codes
pub mod Rows
pub mod Giving
pub mod Refusals
pub mod Copies
pub mod ProcessChanges
pub mod Mapping
pub mod Checkpoints
pub mod Images
pub mod Debugging
pub mod Changes
pub mod Deduplication
pub mod Commands
pub mod CommandCases
pub mod Looks
pub mod Standing
pub mod DeduplicationLaws
pub mod LikeLaws
pub mod Ample
pub mod Unbounded
pub mod UnboundedLaws
pub mod Examples
