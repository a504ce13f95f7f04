-- The round machine, in the order a reader needs it; then what the statements about it speak of.
pub mod Limits
pub mod Config
pub mod Stages
pub mod Verdicts
pub mod Events
pub mod Runs
pub mod Allowed
pub mod Course
pub mod Effects
pub mod Claims
pub mod Examples
