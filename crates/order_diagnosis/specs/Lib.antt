pub mod Rows
pub mod Emit
pub mod Path
pub mod Walk
pub mod Same
pub mod Reported
pub mod Loud
