pub mod Listing
pub mod Order
