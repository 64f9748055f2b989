pub mod Packs
pub mod Reading
pub mod Packing
pub mod Ending
pub mod Making
