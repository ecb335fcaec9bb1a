pub mod Plain
pub mod Filter
