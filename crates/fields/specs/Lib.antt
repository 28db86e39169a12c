pub mod ParseLaws
pub mod Fields
pub mod Keys
pub mod FieldLaws
