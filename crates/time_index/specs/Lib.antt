pub mod Answers
pub mod Heads
pub mod Ands
