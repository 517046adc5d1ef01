pub mod Summing
pub mod Serving
pub mod Histories
pub mod Fitting
