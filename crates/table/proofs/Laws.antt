-- What follows from the definitions.
mod Prelude
pub mod Stored
pub mod Shown
pub mod Pending
pub mod Checks
pub mod Staging
pub mod Sound
pub mod Live
pub mod Lookup
pub mod Refusals
pub mod Opening
pub mod Fronts
pub mod Replies
pub mod Keeps
pub mod Answers
pub mod Determined
