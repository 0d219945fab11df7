-- Contracts of functions that no user calls.
pub mod Appending
pub mod Inserting
pub mod Ruling
pub mod Insertions
