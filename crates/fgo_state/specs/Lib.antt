pub mod Memory
pub mod Live
pub mod Gathering
pub mod Gathered
pub mod Sound
pub mod Owners
pub mod Contents
