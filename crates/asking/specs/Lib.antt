pub mod Asked
pub mod Lent
