pub mod Intervals
pub mod Binding
pub mod Excluded
pub mod Laws
