pub mod Handing
pub mod Naming
pub mod Steps
pub mod Keeping
