-- The contracts of private parts.
pub mod Parts
