pub mod Compact
pub mod FillLaws
pub mod Reading
pub mod ReadingLaws
pub mod SheetLaws
pub mod Instance
