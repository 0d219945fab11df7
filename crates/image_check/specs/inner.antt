-- Contracts of functions that no user calls.
pub mod Decoding
pub mod Parsed
