pub mod Alike
pub mod Examples
