pub mod Making
pub mod Walks
pub mod MakingLaws
pub mod Adding
