pub mod Forms
pub mod Slots
pub mod Storing
