pub mod Numbers
pub mod Refusing
pub mod Stores
pub mod Sound
pub mod Outcomes
pub mod inner
