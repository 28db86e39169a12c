pub mod Associates
pub mod AssociateLaws
pub mod Owning
pub mod OwningLaws
pub mod Joining
pub mod Reading
pub mod Cases
