pub mod RoundTrip
pub mod Answers
pub mod Examples
