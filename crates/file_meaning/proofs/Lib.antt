pub mod Numbers
pub mod Spelled
pub mod Believed
pub mod FileRows
