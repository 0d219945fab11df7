-- Contracts of functions that no user calls.
pub mod Blocks
pub mod Common
