pub mod CellsOf
pub mod Kinds
pub mod Loaded
pub mod Steps
pub mod Longest
pub mod Walking
