-- Contracts of functions that no user calls.
pub mod Lines
pub mod Surveys
