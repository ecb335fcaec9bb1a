mod Commute
pub mod Law
