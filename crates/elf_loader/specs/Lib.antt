-- In reading order: the fields of a file, which pages its segments touch, which files are taken, the
-- image that a taken file has, laws of it, how far segments reach, and which segments give a page its bytes.
pub mod Fields
pub mod Touched
pub mod Accepted
pub mod Image
pub mod TakenLaws
pub mod Reach
pub mod Layers
pub use Rattle.ovl_io.specs.Permissions
pub use Rattle.ovl_io.specs.Memory
