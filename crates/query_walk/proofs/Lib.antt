pub mod Chains
pub mod Listed
pub mod Rebuilt
pub mod Searching
pub mod Smaller
pub mod Walking
