pub mod Exactly
pub mod Fewer
pub mod Examples
