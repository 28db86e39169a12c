pub mod ListingLaws
pub mod OrderLaws
