pub mod Text
pub mod Printed
