mod Prelude
pub mod Checks
pub mod Steps
