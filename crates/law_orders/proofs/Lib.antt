pub mod Spelling
pub mod Order
pub mod Examples
