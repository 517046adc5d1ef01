pub mod Long
pub mod Streams
pub mod Cases
