-- What follows from the definitions.
mod Prelude
pub mod Lines
pub mod Kinds
pub mod Digits
pub mod Decimals
pub mod Reads
