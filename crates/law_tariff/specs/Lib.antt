pub mod Statements
pub mod Examples
