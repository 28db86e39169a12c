pub mod Statements
pub mod Constructs
pub mod Examples
