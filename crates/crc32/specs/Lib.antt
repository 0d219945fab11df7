pub mod Crc
pub mod Bytes
pub mod inner
pub mod Laws
