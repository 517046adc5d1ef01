pub mod Puts
pub mod Copies
