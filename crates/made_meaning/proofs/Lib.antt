pub mod Ungrouped
pub mod Shuffled
