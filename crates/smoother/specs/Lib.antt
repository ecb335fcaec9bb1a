pub mod Smoother
pub mod Promise
