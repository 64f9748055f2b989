pub mod Same
pub mod OperandParts
