pub mod Exactly
pub mod Refused
pub mod Faults
pub mod RoundTrips
pub mod Examples
