pub mod Parts
pub mod Requests
pub mod Feeding
pub mod Cases
