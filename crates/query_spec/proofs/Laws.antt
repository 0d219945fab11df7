-- What follows from the definitions.
mod Prelude
pub mod Determined
pub mod Pages
