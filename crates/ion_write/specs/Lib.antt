pub mod PairAt
pub mod Appends
pub mod Counts
pub mod Mentions
pub mod Written
