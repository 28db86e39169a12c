pub mod Repeats
pub mod RangeLaws
pub mod RepeatLaws
