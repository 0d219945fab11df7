-- What callers may rely on of an index store.
mod Prelude
pub mod Chains
pub mod Using
pub mod Found
