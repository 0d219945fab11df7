pub mod Image
pub mod Outcomes
pub mod Laws
