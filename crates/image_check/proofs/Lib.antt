mod Prelude
pub mod CheckingSteps
pub mod ParsingSteps
