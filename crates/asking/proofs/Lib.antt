pub mod Telling
pub mod Says
pub mod Answered
