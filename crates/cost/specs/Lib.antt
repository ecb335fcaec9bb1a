pub mod Logs
pub mod Cost
