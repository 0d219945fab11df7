mod Prelude
pub mod RefusingSteps
pub mod Laws
