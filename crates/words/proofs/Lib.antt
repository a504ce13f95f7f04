-- Start at Meaning, the front page. Beside it stand: what a list of events comes to, what is read, that a memory shows one configuration, and that
-- a call has one result. Below them, in this order: the examples; places and writes; what words spell; how runs fit them; what they show after each change.
pub mod Meaning
pub mod Replaying
pub mod Reading
pub mod Unique
pub mod Determined
pub mod AllExamples
pub mod Places
pub mod Frames
pub mod Spelling
pub mod Fitting
pub mod Settling
pub mod Marking
pub mod Posting
pub mod Sending
pub mod Receiving
pub mod Stepping
pub mod Opening
pub mod Answering
