-- Contracts of functions that no user calls.
pub mod Lent
pub mod FullIndexShape
pub mod Bounds
pub mod Records
