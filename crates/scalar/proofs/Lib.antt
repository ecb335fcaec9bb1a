pub mod Algebra
pub mod TwentyThree
pub mod Positive
pub mod NotPositive
pub mod Logarithm
pub mod Reciprocals
pub mod Floor
pub mod RootDigits
pub mod RootScale
pub mod RootCases
pub mod Nearest
pub mod RootLaw
pub mod Made
mod RoundingOrder
pub mod Monotone
