pub mod Left
pub mod Heads
