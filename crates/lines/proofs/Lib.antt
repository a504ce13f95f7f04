-- Start at Whole: the pieces of a sheet add up to it. Progress says that they come to an end, Blind what the line carrier may rely on. Below them
-- stand the examples, the lines that close a sheet, and the laws of a piece record by record.
pub mod Whole
pub mod Progress
pub mod Blind
pub mod AllExamples
pub mod Closing
pub mod Turning
