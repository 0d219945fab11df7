mod Prelude
pub mod LawsSearch
pub mod LawsCheck
