-- What follows from the definitions.
mod Prelude
pub mod Numbers
pub mod Verdicts
pub mod Determined
pub mod Example
