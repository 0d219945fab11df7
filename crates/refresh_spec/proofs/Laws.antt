-- What follows from the definitions.
mod Prelude
pub mod Keeps
pub mod Determined
pub mod Decided
pub mod Places
pub mod Chains
pub mod Fronts
pub mod Lookup
pub mod Empty
