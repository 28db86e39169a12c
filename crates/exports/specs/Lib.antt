pub mod Exports
pub mod Parts
pub mod Statements
pub mod ExportLaws
pub mod Conversions
pub mod ConversionLaws
pub mod Examples
