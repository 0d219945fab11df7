mod Prelude
pub mod Apart
pub mod Conditions
pub mod Risen
pub mod Rows
pub mod Steps
