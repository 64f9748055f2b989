pub mod Arranged
pub mod Padded
pub mod Heaps
pub mod Top
pub mod Laws
