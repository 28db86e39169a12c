pub mod SheetItems
