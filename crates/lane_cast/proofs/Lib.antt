pub mod Casting
pub mod Fitting
pub mod Shows
pub mod Strictly
pub mod TruthsShow
