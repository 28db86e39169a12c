pub mod Statements
pub mod Packed
pub mod Parsers
pub mod Constructs
pub mod Sizes
pub mod Rules
pub mod Refusals
pub mod Examples
