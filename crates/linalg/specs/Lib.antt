pub mod Grown
pub mod Sizes
pub mod Matrix
pub mod Cholesky
pub mod Rows
