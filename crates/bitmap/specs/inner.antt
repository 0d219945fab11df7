-- Contracts of functions that no user calls.
pub mod Marking
pub mod Bitmaps
