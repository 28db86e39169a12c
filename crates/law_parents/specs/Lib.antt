pub mod Placed
pub mod Listed
pub mod Earlier
pub mod Instance
