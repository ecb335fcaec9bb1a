pub mod Pass
pub mod Oldest
