-- What follows from the definitions.
mod Prelude
pub mod Letters
pub mod Truncated
pub mod Results
pub mod Opening
pub mod Calls
pub mod Queries
pub mod Determined
pub mod Session
pub mod Example
pub mod Listings
pub mod Cells
pub mod Printed
