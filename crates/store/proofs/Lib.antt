pub mod Outcomes
pub mod Same
pub mod Answered
