pub mod Staged
pub mod Refusing
pub mod Plain
pub mod Refreshing
pub mod Calls
pub mod Proper
pub mod Appending
