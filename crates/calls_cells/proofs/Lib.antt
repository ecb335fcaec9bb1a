pub mod Chain
pub mod Opened
