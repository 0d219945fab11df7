-- What follows from the definitions.
mod Prelude
pub mod Lines
pub mod Lengths
pub mod Listed
pub mod Represented
pub mod Determined
pub mod Answers
pub mod ReadBack
