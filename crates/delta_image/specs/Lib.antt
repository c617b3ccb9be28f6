-- In reading order: a line; the bytes of an image, part by part; which deltas have one; what decoding answers; how long an image is; which lines a vector is made of;
-- whether a delta is fine, as a test; which delta bytes are the image of, with its laws; what a delta makes of a memory, with its laws; the constants as numbers.
pub mod Line
pub mod Image
pub mod Fine
pub mod Decoding
pub mod LengthLaws
pub mod VectorLaws
pub mod FineTest
pub mod Said
pub mod SaidLaws
pub mod Applied
pub mod AppliedLaws
pub mod Examples
