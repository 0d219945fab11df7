-- Contracts of functions that no user calls.
pub mod Entries
pub mod Marking
