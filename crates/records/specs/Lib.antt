-- The definitions: what stands at the head of the bytes, what all the bytes say, and what a written buffer holds.
pub mod Records
pub mod Script
pub mod Stored
pub mod Examples
