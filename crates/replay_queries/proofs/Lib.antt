pub mod ExecutingSteps
mod Prelude
pub mod RunSteps
