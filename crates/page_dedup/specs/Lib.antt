-- In reading order: how the calls come out, and what marks of frames say.
pub mod Deduplicated
pub mod Marked
