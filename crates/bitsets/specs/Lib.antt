pub mod Bitsets
pub mod BitLaws
pub mod WalkLaws
