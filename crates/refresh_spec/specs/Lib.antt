pub mod Index
pub mod Refreshes
pub mod inner
