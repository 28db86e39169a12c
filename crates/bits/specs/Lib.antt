pub mod Reading
pub mod Writing
pub mod NumberLaws
pub mod WriteLaws
pub mod ReadLaws
