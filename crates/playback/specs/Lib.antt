pub mod Told
pub mod Smoothed
pub mod Played
