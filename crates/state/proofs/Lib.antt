pub mod Cases
pub mod Ready
pub mod Told
