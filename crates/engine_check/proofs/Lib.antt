pub mod Forms
pub mod Seen
pub mod Turns
