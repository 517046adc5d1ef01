pub mod Desks
pub mod Served
