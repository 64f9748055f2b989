pub mod Exact
pub mod Batches
pub mod Named
mod Some
pub mod Plain
mod Splits
pub mod Ended
pub mod Sorting
pub mod Arranged
pub mod Shuffled
