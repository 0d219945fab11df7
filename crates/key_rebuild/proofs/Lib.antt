mod Prelude
pub mod RebuildSteps
pub mod RenumberSteps
pub mod UniqueSteps
