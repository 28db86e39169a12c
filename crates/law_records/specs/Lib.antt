pub mod Statements
pub mod Walks
pub mod Grammar
pub mod Examples
