pub mod Same
pub mod FirstLaws
pub mod MarkLaws
pub mod SameLaws
pub mod Instance
