pub mod Putting
mod Feeding
