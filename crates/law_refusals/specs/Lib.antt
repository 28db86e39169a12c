pub mod Statements
pub mod Late
