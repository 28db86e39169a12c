pub mod Refused
pub mod Relisting
pub mod Examples
