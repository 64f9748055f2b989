pub mod Begun
pub mod NoMissing
