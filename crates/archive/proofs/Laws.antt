-- What follows from the definitions.
mod Prelude
pub mod Contents
pub mod Resized
pub mod Saved
pub mod Loaded
pub mod Damage
pub mod Theorem
