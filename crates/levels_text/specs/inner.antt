-- Contracts of functions that no user calls.
pub mod Reading
pub mod Appending
