-- The laws of sets, for crates above: which processes a set has, how large it is, its members one by one, and that an equation has one result.
pub mod Membership
pub mod Bounds
pub mod Order
pub mod Determined
