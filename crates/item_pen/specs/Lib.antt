pub mod Pen
pub mod WideLaws
pub mod PenLaws
pub mod SoFar
pub mod SoFarLaws
