-- Contracts of functions that no user calls.
pub mod Rebuilding
pub mod Renumbering
