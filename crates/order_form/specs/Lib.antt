pub mod Lists
pub mod Reading
pub mod Rounds
pub mod Names
pub mod Instance
pub mod Compact
