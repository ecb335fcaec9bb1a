pub mod Law
pub mod ChainLaw
pub mod Taken
pub mod Example
