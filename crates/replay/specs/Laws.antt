-- What follows from the definitions.
mod CallPrelude
mod Prelude
pub mod Encoding
pub mod Requests
pub mod Making
pub mod Theorem
pub mod Determined
