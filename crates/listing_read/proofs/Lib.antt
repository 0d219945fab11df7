mod Prelude
pub mod Writing
pub mod Reading
pub mod Lengths
pub mod Converting
pub mod Answers
