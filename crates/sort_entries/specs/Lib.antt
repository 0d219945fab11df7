pub mod Entries
pub mod inner
pub mod Laws
