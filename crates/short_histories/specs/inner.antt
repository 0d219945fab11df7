-- Contracts of functions that no user calls.
pub mod Raised
