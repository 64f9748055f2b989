pub mod View
pub mod Falls
pub mod Parts
pub mod Queries
