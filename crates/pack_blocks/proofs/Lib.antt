pub mod Files
pub mod Spans
pub mod Writing
