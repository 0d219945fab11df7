mod Prelude
pub mod Links
pub mod Mentions
pub mod BitmapSteps
