pub mod OneToOne
pub mod Written
pub mod Listed
pub mod Examples
