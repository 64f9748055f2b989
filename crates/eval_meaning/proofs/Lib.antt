pub mod LikesExact
pub mod Division
pub mod Multiples
pub mod FirstDays
pub mod Truncation
