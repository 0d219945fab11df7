-- Contracts of functions that no user calls.
pub mod Index
pub mod Ring
pub mod Window
pub mod BackwardShift
