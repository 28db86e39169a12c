pub mod Names
pub mod Holding
pub mod NamesLaws
pub mod Named
pub mod Instance
