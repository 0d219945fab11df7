-- What follows from the definitions.
mod Prelude
pub mod Rows
pub mod Lookup
pub mod Calls
pub mod Counts
pub mod Refreshing
pub mod Proper
pub mod Live
pub mod Batches
pub mod Notes
pub mod Turns
pub mod Stamps
pub mod Price
