-- The definitions: what an event of the list is to the round machine.
pub mod Listed
