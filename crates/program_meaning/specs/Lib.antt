pub mod Instructions
pub mod Code
pub mod Programs
pub mod Registers
pub mod Jobs
pub mod Simulation
pub mod Laws
