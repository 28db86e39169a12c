pub mod Reach
pub mod ReachLaws
