-- Two allowed results of a call are equal; and what the functions rest on: text in a buffer, numbers in decimal, how long lines are, and the
-- loops of the pieces.
pub mod Determined
pub mod Writing
pub mod Decimals
pub mod Lengths
pub mod Pacing
