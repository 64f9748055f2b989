pub mod Splitting
pub mod Rows
pub mod Lines
pub mod Cuts
pub mod PackedFiles
pub mod Packing
pub mod Laws
