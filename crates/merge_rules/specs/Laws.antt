-- What follows from the definitions.
mod Prelude
pub mod Signed
pub mod Rules
