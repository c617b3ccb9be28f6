pub mod Counts
pub mod CommitWalk
pub mod CopyWalk
pub mod PageWalk
pub mod Pages
