pub mod Consumed
pub mod Reading
pub mod Lines
pub mod Fronts
pub mod Filling
pub mod Logs
