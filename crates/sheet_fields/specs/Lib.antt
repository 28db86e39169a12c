pub mod FieldsLaws
