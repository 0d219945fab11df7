mod Prelude
pub mod CheckingSteps
