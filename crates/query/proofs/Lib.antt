pub mod Every
pub mod Prelude
