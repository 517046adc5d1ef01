pub mod Orders
pub mod Keys
