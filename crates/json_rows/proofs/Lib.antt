pub mod Converting
pub mod LineReading
pub mod Stored
