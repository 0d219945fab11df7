mod Prelude
pub mod Filling
pub mod Answers
