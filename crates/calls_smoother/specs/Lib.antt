pub mod Room
pub mod Smoothing
