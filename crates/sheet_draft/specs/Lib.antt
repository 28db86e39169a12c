pub mod Draft
pub mod Drafted
pub mod EnteredLaws
