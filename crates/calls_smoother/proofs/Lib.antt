pub mod Smoothed
mod Fronts
mod Reading
