pub mod Decoding
pub mod Examples
pub mod Statements
pub mod DecodingLaws
pub mod ReadLaws
