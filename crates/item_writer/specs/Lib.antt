pub mod Items
pub mod WriterLaws
pub mod Instance
