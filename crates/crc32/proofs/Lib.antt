mod Prelude
pub mod TableRule
pub mod Slices
pub mod Words
