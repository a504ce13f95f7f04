-- The definitions: what the replay of a trace comes to on the abstract round machine, what one record, or
-- sends and receives all at once, do to the words of a memory, and what the calls promise exactly.
pub mod Outcome
pub mod Turns
pub mod Haste
pub mod Exact
pub mod Claims
pub mod Examples
