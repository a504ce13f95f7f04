-- What document 01 says that its first example finds.
pub mod Expected
