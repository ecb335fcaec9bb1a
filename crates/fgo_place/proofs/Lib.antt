pub mod Owners
pub mod PlacingSteps
pub mod Compacting
pub mod Telling
