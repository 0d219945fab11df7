pub mod Constraints
pub mod Encoding
pub mod Laws
