pub mod Joining
pub mod Refusals
