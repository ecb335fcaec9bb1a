pub mod Price
