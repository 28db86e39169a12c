pub mod HeldLaws
pub mod Limits
