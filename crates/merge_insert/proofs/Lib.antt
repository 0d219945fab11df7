mod Prelude
pub mod AppendSteps
pub mod InsertSteps
pub mod PassInserts
