-- The definitions: where the words stand, what they spell, what each call does to them and promises exactly,
-- and when they show a configuration.
pub mod Layout
pub mod Spelled
pub mod Calls
pub mod Exact
pub mod Shows
pub mod Examples
