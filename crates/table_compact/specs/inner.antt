-- Contracts of functions that no user calls.
pub mod ClosingUp
pub mod Compaction
