-- What document 01 says that its examples find.
pub mod Expected
