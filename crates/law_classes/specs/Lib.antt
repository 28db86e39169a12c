pub mod Sets
pub mod Refusal
pub mod Numbers
pub mod Walks
