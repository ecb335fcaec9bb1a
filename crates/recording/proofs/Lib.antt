pub mod Recorded
pub mod Filling
