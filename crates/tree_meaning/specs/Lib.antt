pub mod Decimals
pub mod Parts
pub mod Tree
pub mod Code
pub mod WellFormed
