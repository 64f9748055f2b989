pub mod LexSteps
pub mod SpanSteps
