pub mod Bytewise
pub mod PatternValue
pub mod PieceLaws
pub mod Pieces
