-- Contracts of functions that no user calls.
pub mod Rising
pub mod Writing
pub mod Search
pub mod RetainBuilder
