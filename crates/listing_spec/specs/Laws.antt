-- What follows from the definitions.
mod Prelude
pub mod Decimals
pub mod Lines
pub mod Pieces
pub mod Texts
pub mod Conversions
pub mod Determined
pub mod Restored
