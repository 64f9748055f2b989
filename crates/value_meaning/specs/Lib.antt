pub mod Val
pub mod Order
pub mod Code
pub mod Pairs
pub mod Sound
