-- What follows from the definitions.
mod Prelude
pub mod Steps
pub mod Numbers
pub mod Blocks
pub mod Positions
pub mod Order
pub mod Refusals
pub mod Determined
pub mod Generated
