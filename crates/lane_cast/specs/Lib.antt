pub mod Made
pub mod Arithmetic
pub mod Spelled
