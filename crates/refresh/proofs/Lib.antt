mod Prelude
pub mod TestSteps
pub mod FindSteps
pub mod WriteSteps
pub mod StageSteps
pub mod RefreshSteps
