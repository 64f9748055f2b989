pub mod EachFlag
pub mod RowsOfGroups
