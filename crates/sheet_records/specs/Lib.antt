pub mod Kinds
pub mod Annotations
pub mod Marks
pub mod AnnotationLaws
pub mod MarkLaws
