pub mod Comparing
pub mod Finding
pub mod Growing
pub mod LastName
