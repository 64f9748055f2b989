pub mod Operands
pub mod Emitting
pub mod Listing
pub mod Ends
pub mod Constants
