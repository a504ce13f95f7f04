-- The laws of the report: bytes stored one after the other, what they are of a run, that they say nothing of a value, and that the call has one result.
pub mod AllExamples
pub mod Bytes
pub mod Determined
pub mod Meaning
