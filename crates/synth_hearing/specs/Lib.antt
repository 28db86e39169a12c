pub mod Hearing
pub mod HearingLaws
