pub mod Shuffles
pub mod Summaries
pub mod Partials
pub mod Best
pub mod Keys
pub mod Filters
pub mod DistinctKeys
