pub mod Rows
pub mod Moves
