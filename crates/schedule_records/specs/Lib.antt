pub mod Turning
pub mod TurningLaws
pub mod CallLaws
