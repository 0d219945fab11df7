pub mod inner
pub mod Laws
