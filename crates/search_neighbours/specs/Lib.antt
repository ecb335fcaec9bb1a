pub mod Near
pub mod Extents
