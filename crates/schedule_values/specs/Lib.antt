pub mod Meeting
pub mod MeetingLaws
