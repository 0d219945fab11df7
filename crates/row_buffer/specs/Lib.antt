pub mod Ranks
pub mod inner
pub mod Laws
