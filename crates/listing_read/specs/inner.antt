-- Contracts of functions that no user calls.
pub mod ReadResults
pub mod Converting
