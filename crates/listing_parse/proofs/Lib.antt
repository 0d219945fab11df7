mod Prelude
pub mod Fields
pub mod Digits
pub mod Lines
pub mod Rows
pub mod Counting
pub mod Heads
