pub mod Tests
pub mod TestLaws
pub mod WordLaws
pub mod TakenLaws
pub mod MarkLaws
pub mod RepeatLaws
pub mod DecideLaws
pub mod Instance
