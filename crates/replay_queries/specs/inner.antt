-- Contracts of functions that no user calls.
pub mod Executing
pub mod Running
