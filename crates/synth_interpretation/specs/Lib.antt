pub mod Emit
pub mod Judged
pub mod JudgedLaws
