pub mod Merge
pub mod Lent
