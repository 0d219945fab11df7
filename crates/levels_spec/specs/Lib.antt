pub mod Response
pub mod Answers
pub mod Session
pub mod inner
pub mod Laws
