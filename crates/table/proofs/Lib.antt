mod Prelude
pub mod RefusingSteps
pub mod KindSteps
pub mod Laws
