pub mod Pass
pub mod Lent
pub mod Extents
pub mod Represents
pub mod Stands
