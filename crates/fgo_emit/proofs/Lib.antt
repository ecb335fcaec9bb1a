pub mod Associations
pub mod Listing
pub mod Framing
