pub mod Seen
pub mod Gives
pub mod Slices
pub mod ReadsAt
