pub mod Grow
pub mod Prelude
pub mod Rising
pub mod SearchSteps
