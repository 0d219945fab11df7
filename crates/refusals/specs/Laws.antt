-- What follows from the definitions.
pub mod Determined
pub mod Replies
pub mod Numbers
