-- What the program's functions rest on.
pub mod Printing
