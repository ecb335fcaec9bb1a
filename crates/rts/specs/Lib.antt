pub mod Smoothing
pub mod Published
