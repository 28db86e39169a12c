pub mod Classes
pub mod Numbers
pub mod ClassLaws
pub mod Made
pub mod Walks
pub mod Known
