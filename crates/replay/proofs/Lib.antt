mod Prelude
pub mod Headers
pub mod ReplaySteps
