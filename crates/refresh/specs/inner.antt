-- Contracts of functions that no user calls.
pub mod Testing
pub mod Finding
pub mod Staging
