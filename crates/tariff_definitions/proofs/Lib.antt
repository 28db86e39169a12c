pub mod TariffCases
pub mod DecodedLaws
