mod Prelude
pub mod LoadingSteps
pub mod TextSteps
