-- What the proofs of the list's functions share.
pub mod Turning
pub mod SameRun
pub mod Blind
