pub mod Sources
pub mod Known
