pub mod Kinds
pub mod Own
pub mod OwnLaws
pub mod Handing
pub mod Cases
