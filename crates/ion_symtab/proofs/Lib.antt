pub mod Lookups
pub mod TextsRead
pub mod TableRead
pub mod Members
