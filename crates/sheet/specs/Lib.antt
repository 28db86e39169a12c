pub mod Sheets
pub mod SheetLaws
