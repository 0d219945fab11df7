-- What follows from the definitions.
mod Prelude
pub mod Xor
pub mod Steps
pub mod Bytes
pub mod Register
pub mod Damage
