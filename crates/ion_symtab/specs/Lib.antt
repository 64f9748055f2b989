pub mod TextCells
pub mod Laws
