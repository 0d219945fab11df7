pub mod Sequences
pub mod Laws
pub mod inner
