pub mod Each
pub mod Agreeing
pub mod KnownValues
pub mod Listed
pub mod GroupValues
pub mod Printable
pub mod PrintableValues
pub mod OutputLines
