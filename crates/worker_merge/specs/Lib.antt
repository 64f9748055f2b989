pub mod Draws
pub mod Growing
pub mod Hands
pub mod Pieces
