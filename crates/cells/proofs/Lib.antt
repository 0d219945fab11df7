mod Prelude
pub mod Bits
pub mod Hash
