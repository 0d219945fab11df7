pub mod Slots
pub mod inner
pub mod Laws
