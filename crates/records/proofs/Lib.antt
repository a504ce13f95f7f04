-- The laws of reading: what is read whole is read the same whatever follows, so that reading in pieces is reading the whole. Short says how
-- little is cut short. Stored serves the proofs of functions above.
pub mod AllExamples
pub mod Cutting
pub mod Whole
pub mod Scripts
pub mod Short
pub mod Stored
