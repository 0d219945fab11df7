pub mod Visits
pub mod Laws
pub mod inner
