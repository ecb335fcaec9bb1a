pub mod Config
pub mod Little
pub mod Frame
pub mod Body
pub mod Encode
