pub mod Putting
pub mod Fitting
pub mod Showing
