mod Keys
mod Rows
mod Heaps
mod Sorting
pub mod Standing
pub mod Answered
pub mod Joining
