-- How the events of lock step are put together, and that all are accepted; the proofs of the functions stand in the folders beside it.
pub mod Joining
pub mod Phases
pub mod Accepting
