pub mod Parents
pub mod Known
pub mod PutLaws
pub mod MapLaws
pub mod SheetLaws
pub mod Instance
