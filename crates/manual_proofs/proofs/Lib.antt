pub mod Again
pub mod Arrays
pub mod LentArray
pub mod Locals
pub mod Prelude
pub mod Straight
pub mod Walking
