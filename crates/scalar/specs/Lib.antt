pub mod Digits
pub mod Ln
pub mod Root
pub mod Scalar
pub mod Num
pub mod F64
pub mod TwentyThree
