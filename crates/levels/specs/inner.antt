-- Contracts of functions that no user calls.
pub mod Turns
pub mod Advancing
pub mod Stepping
pub mod Running
