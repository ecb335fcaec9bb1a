pub mod ReadyLaw
pub mod Placements
pub mod HeldScans
pub mod Accepted
pub mod HeldFrame
pub mod ArrivedState
pub mod SearchGathered
