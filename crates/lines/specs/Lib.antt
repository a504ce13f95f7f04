-- The definitions: the lines of the sheet, the sheet of a trace, the pieces in which it is written, and what the statements speak of.
pub mod Text
pub mod Sheet
pub mod Pieces
pub mod Claims
pub mod Carrier
pub mod Ascii
pub mod Examples
