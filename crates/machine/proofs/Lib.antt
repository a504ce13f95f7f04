-- The laws that the proofs of the functions share.
pub mod Rooms
pub mod Told
pub mod Heard
pub mod Clearing
pub mod Numbers
