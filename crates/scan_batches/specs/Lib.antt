pub mod Lines
pub mod Scans
pub mod Outcome
pub mod Gathers
