pub mod Operands
pub mod Aggregates
pub mod Better
pub mod Partials
pub mod Keys
pub mod Laws
