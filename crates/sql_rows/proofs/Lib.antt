pub mod Shortened
pub mod Prefixes
