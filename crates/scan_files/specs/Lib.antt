pub mod Places
pub mod Surveys
