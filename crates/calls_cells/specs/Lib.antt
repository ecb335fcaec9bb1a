pub mod Cells
pub mod Hashing
pub mod Lent
pub mod Opening
