mod Prelude
pub mod MarkSteps
pub mod Marking
