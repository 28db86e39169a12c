pub mod Sorts
pub mod Walking
pub mod WalkingLaws
pub mod FormLaws
