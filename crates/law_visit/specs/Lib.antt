pub mod Trail
pub mod Extends
pub mod TwoSteps
