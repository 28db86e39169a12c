pub mod Lists
pub mod Decodes
pub mod ListLaws
pub mod DecodeLaws
pub mod Extended
