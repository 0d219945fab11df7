mod Prelude
pub mod Answers
