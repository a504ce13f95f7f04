-- The definitions: the bytes of a report, and what the call gives and leaves.
pub mod Report
pub mod Examples
