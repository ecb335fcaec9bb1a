pub mod Config
pub mod Window
pub mod Held
