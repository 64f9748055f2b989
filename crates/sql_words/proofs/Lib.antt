pub mod Places
pub mod Slices
pub mod Doubled
pub mod Kept
