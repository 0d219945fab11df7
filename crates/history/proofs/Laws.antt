-- What follows from the definitions.
mod Prelude
pub mod Calls
pub mod Further
pub mod Determined
pub mod Narrowing
pub mod Queries
pub mod Theorem
pub mod Batches
pub mod LentLengths
pub mod Total
pub mod RefreshKinds
pub mod LentQueries
pub mod Stamps
pub mod Notes
pub mod Refreshes
pub mod Price
