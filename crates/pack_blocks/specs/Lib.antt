pub mod Spans
pub mod Files
pub mod Writing
