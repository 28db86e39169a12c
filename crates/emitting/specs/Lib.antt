pub mod Emitting
pub mod Row
pub mod Writing
