pub mod Rows
pub mod Variants
pub mod TopLaws
pub mod RowLaws
