pub mod Laws
pub mod Orders
pub mod Whole
