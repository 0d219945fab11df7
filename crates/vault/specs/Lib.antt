pub mod Columns
pub mod inner
pub mod Laws
