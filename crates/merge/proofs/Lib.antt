pub mod MergingSteps
