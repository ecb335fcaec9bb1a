pub mod Opening
pub mod Sizes
pub mod Leaving
pub mod Answering
pub mod PushLaw
