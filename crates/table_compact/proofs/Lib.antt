mod Prelude
pub mod CompactionSteps
