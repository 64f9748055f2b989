pub mod Counting
pub mod Keeping
pub mod Running
pub mod Stepping
