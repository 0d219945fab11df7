-- What follows from the definitions.
mod Prelude
pub mod Index
pub mod Lines
pub mod Longer
pub mod Pigeonhole
pub mod Places
pub mod Rows
pub mod Unrolled
pub mod Ring
pub mod SizeClasses
pub mod BackwardShift
