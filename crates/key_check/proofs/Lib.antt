mod Prelude
pub mod CheckSteps
