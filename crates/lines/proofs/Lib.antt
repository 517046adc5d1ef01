pub mod Parting
pub mod Asking
pub mod Kept
