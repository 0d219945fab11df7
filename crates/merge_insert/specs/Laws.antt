-- What follows from the definitions.
mod Prelude
pub mod Admission
pub mod Growth
pub mod Places
pub mod Inserts
