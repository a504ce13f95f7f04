-- The definitions that the contracts of the writers speak of, and what the public calls promise exactly.
pub mod Written
pub mod Exact
