pub mod Calls
pub mod Refined
pub mod Audit
pub mod Smoothed
pub mod Joined
pub mod Kept
