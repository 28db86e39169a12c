pub mod Lists
pub mod Rows
pub mod RowLaws
pub mod Next
pub mod NextLaws
