pub mod Requests
pub mod Encoding
pub mod Replays
pub mod inner
pub mod Laws
