pub mod CornerCases
pub mod DocumentCases
pub mod ConversionCases
pub mod ItemOrderCases
