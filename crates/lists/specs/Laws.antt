-- Laws of the definitions of Lists.antt.
mod Prelude
pub mod Parts
pub mod Filter
pub mod All
pub mod Rising
pub mod Rows
pub mod Search
pub mod Front
