pub mod Placing
pub mod PlacingLaws
