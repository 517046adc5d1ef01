pub mod Puts
pub mod Rows
pub mod Same
pub mod Cut
