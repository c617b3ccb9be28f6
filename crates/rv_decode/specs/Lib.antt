pub mod Table
pub mod Fits
pub mod Fields
pub mod Meaning
pub mod Encodable
pub mod Encoding
pub mod TableLaws
pub mod MeaningLaws
