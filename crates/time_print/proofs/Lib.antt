pub mod Dates
pub mod Spelling
