-- What follows from the definitions.
mod Prelude
pub mod Scan
pub mod Meeting
pub mod Determined
