pub mod Keyed
pub mod Gathered
pub mod Growing
pub mod OfQuery
pub mod Flat
