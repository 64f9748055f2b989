pub mod Placed
pub mod Hashes
pub mod PairAt
