pub mod Saving
pub mod Store
pub mod StoreLaws
