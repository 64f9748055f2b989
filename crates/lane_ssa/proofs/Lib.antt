pub mod Building
pub mod LaneRegisters
pub mod RowLanes
pub mod OneMade
