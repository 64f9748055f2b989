pub mod ManyDigits
pub mod Locals
