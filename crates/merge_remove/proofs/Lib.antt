mod Prelude
pub mod PassRemovals
pub mod RemovalSteps
