pub mod Fill
pub mod Made
pub mod Grown
pub mod Sums
pub mod Diagonal
pub mod Products
pub mod Blocks
mod Entries
pub mod Laws
mod Factor
pub mod Inverse
pub mod Triangle
