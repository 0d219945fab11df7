-- Contracts of functions that no user calls, and what their proofs lean on.
pub mod Encoded
pub mod Querying
pub mod Reading
pub mod Calling
