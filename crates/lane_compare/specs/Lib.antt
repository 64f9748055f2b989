pub mod Comparing
pub mod Operands
