pub mod Grown
pub mod StepTexts
pub mod MatchTexts
pub mod Members
pub mod PiecesUtf8
pub mod Whole
