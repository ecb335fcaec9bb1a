mod Axes
pub mod Predicting
pub mod Updating
pub mod Law
pub mod Example
