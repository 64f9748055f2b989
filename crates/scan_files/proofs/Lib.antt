pub mod Blocks
pub mod Parts
pub mod Surveying
pub mod Surveyed
pub mod Limits
