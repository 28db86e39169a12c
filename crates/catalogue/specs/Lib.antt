pub mod Layout
pub mod Catalogue
pub mod ByDom
pub mod DomLaws
pub mod ClassOrder
