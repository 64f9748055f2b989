pub mod Words
pub mod Lexing
pub mod Tokens
pub mod RowName
pub mod Grammar
pub mod Reading
pub mod Faults
pub mod Laws
