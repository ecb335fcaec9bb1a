pub mod Far
pub mod Enclosing
