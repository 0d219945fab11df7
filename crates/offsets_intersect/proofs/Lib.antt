pub mod Answers
pub mod Common
pub mod Passing
pub mod Prelude
pub mod Similar
