-- The definitions: the rule on the messages heard, and on a tally of them.
pub mod Voting
pub mod Tally
