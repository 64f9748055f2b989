pub mod Counts
pub mod LineViews
