-- What follows from the definitions.
mod Prelude
pub mod Bytes
pub mod Images
pub mod Determined
