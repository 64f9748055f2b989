pub mod Programs
pub mod Persist
pub mod Chunks
