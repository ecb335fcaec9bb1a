pub mod Over
pub mod Running
pub mod Writes
pub mod Apart
pub mod Slots
pub mod Checking
pub mod Filling
pub mod Agreeing
