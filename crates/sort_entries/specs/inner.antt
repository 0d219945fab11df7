-- Contracts of functions that no user calls.
pub mod Append
pub mod Checks
pub mod Search
