pub mod RowCells
pub mod RowAt
pub mod RowsRead
pub mod Opened
pub mod Lanes
