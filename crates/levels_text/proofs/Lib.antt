mod Prelude
pub mod Digits
pub mod Numbers
