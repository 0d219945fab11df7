mod Prelude
pub mod LoopSteps
pub mod RaisingSteps
