pub mod Listings
pub mod inner
pub mod Laws
