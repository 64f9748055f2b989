pub mod Loops
pub mod MadeForms
pub mod Prefixes
