pub mod Refusals
pub mod Calls
pub mod Finishing
pub mod Fronts
