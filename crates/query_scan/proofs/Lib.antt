pub mod AnswerSteps
pub mod MatchSteps
pub mod PageSteps
pub mod Prelude
pub mod ScanSteps
pub mod Visits
