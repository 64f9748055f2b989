pub mod Bits
pub mod Shown
pub mod Registers
pub mod Asking
