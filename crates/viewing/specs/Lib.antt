pub mod Views
pub mod Asking
