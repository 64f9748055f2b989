pub mod Accepted
pub mod GoodFiles
