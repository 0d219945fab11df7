mod Prelude
pub mod FindSteps
pub mod NewPutSteps
pub mod PutSteps
pub mod ScanSteps
pub mod ShiftSteps
pub mod WindowSteps
pub mod WordSteps
