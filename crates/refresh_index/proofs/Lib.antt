mod Prelude
pub mod Sizes
pub mod Fills
pub mod Fronts
pub mod Catches
pub mod Goings
pub mod Leads
pub mod ChainSteps
pub mod ValueSteps
