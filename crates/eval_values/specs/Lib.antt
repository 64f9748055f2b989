pub mod Logic
pub mod Magnitude
