pub mod Cells
pub mod Parts
pub mod Places
pub mod Recent
pub mod Summing
