pub mod Bytes
pub mod Words
pub mod ByteLaws
pub mod MarkLaws
pub mod HeadLaws
pub mod WordLaws
pub mod WordsLaws
pub mod ReachingLaws
