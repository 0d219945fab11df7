-- Contracts of functions that no user calls.
pub mod Scanning
pub mod Taking
pub mod Flushing
