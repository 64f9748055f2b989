pub mod Runs
pub mod Quotes
pub mod Begun
pub mod Cuts
pub mod Tokens
