pub mod Decoded
pub mod Tariff
pub mod DecodedLaws
pub mod SumLaws
