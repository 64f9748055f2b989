pub mod RowLines
pub mod LineSpans
pub mod GoodBlocks
pub mod Growing
pub mod HeadTexts
pub mod Ran
