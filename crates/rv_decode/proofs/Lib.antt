pub mod Masks
pub mod NoneFits
pub mod MeansInstr
pub mod Apart
pub mod Words
pub mod Signed
pub mod WordsByFormat
pub mod Encodes
pub mod Decoded
mod Examples
