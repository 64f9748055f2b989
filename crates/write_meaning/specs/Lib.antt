pub mod Weights
pub mod Encoding
pub mod Standing
pub mod BlockBytes
pub mod BlockTables
pub mod Laws
