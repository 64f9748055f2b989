pub mod Cutting
pub mod Splitting
pub mod Tables
pub mod OwnTimes
pub mod Files
pub mod SameRows
