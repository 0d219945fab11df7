pub mod Encoding
pub mod Outcomes
pub mod RunQueries
pub mod inner
pub mod Laws
