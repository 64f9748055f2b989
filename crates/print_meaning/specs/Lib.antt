pub mod Pieces
pub mod Print
pub mod Laws
pub mod Texts
pub mod Examples
