-- What follows from the definitions.
mod Prelude
pub mod Compaction
pub mod NoneDead
