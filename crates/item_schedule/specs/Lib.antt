pub mod Schedule
pub mod ScheduleLaws
