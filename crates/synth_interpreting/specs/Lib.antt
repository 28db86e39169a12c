pub mod Words
pub mod Entry
pub mod EntryLaws
pub mod Annotations
pub mod AnnotationsLaws
pub mod OwnLaws
pub mod InheritedLaws
pub mod Cases
