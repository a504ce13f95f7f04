-- Start at Meaning, the front page. Below it stand that a call has one result, the examples, the record by record laws that the loops of
-- `replay` and of the sheet rest on, and demand 3.
pub mod Meaning
pub mod Determined
pub mod AllExamples
pub mod Turning
pub mod Telling
pub mod Pausing
pub mod Hastening
pub mod Looping
pub mod Values
