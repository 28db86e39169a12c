pub mod Classes
pub mod ClassLaws
pub mod Classed
