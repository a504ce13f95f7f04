-- The definitions: the events of processes in lock step.
pub mod LockStep
