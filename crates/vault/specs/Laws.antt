-- What follows from the definitions.
mod Prelude
pub mod Differences
pub mod Transposed
pub mod Inverse
pub mod Places
pub mod Directions
pub mod Refusals
pub mod Determined
pub mod Restored
