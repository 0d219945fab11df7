-- Contracts of functions that no user calls.
pub mod Making
pub mod Decoding
