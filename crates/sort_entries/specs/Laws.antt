-- What follows from the definitions.
mod Prelude
pub mod Push
pub mod Stores
pub mod Sound
pub mod Positions
pub mod Ranges
pub mod Grow
pub mod Rebuilt
pub mod Cells
pub mod Values
pub mod Tests
