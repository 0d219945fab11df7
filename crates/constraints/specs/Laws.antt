-- What follows from the definitions.
pub mod Rows
pub mod Encoding
