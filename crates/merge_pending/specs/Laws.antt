-- What follows from the definitions.
mod Prelude
pub mod Steps
pub mod Dying
