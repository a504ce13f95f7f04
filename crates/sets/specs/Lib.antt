-- The definitions: sets of processes as masks.
pub mod Sets
