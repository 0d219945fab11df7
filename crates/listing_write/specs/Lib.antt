pub mod Writing
pub mod inner
pub mod Laws
