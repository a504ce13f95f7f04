-- The laws of the rule, for crates above: what it says, that a tally serves for the messages, that their order does not matter, what it keeps.
pub mod Facts
pub mod Tallies
pub mod Order
pub mod Keeps
