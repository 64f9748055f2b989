pub mod Runs
pub mod Going
pub mod Rows
pub mod MorePairs
pub mod Members
pub mod IfAny
pub mod HavingTexts
pub mod Stored
