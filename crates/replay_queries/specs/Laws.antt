-- What follows from the definitions.
pub mod Encoding
pub mod Executing
mod Prelude
pub mod Running
pub mod Claimed
pub mod Determined
