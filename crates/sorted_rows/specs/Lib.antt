pub mod Holding
pub mod Grown
pub mod Sorted
