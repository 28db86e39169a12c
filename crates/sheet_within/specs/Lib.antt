pub mod Within
pub mod WithinLaws
pub mod PlainLaws
pub mod UpLaws
pub mod OnceLaws
