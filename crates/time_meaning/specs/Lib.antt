pub mod Moments
pub mod Dates
pub mod Printed
pub mod Texts
pub mod Laws
