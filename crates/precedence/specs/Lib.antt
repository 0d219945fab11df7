pub mod Precedence
pub mod inner
pub mod Laws
