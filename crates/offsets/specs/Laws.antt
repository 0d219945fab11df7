-- What follows from the definitions.
mod Prelude
pub mod Subsets
pub mod Forms
pub mod Answers
pub mod Strides
pub mod Retained
