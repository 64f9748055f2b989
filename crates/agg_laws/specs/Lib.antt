pub mod Shows
pub mod Alone
pub mod Bounded
pub mod Room
pub mod Growth
pub mod Parts
pub mod Laws
