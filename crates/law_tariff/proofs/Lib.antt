pub mod Charged
pub mod Tariffs
pub mod Promises
pub mod Bounds
pub mod Examples
