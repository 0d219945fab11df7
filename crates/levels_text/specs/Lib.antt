pub mod Lines
pub mod Kinds
pub mod Written
pub mod inner
pub mod Laws
