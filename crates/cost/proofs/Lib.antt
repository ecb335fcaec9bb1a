pub mod LogTable
pub mod Steps
