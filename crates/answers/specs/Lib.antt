pub mod Answers
pub mod Telling
pub mod Statements
pub mod TellingLaws
pub mod Cases
