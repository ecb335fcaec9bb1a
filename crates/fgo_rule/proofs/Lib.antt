pub mod Conjunctions
pub mod FewScans
pub mod AllOf
pub mod LastPlace
pub mod Scans
pub mod SoundLaw
pub mod OwnedGathered
