-- What follows from the definitions.
mod Prelude
pub mod Lowest
pub mod Bitmaps
