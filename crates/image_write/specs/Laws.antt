-- What follows from the definitions.
mod Prelude
pub mod Packed
pub mod Bodies
pub mod Checks
pub mod Determined
pub mod Written
