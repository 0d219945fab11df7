pub mod Frames
pub mod inner
pub mod Laws
