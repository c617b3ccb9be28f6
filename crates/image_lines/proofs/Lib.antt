pub mod DigitPairs
pub mod LineRuns
pub mod ReadBack
