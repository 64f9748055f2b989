pub mod Texts
pub mod Progress
pub mod Rounds
pub mod Puts
pub mod Named
pub mod Few
pub mod Gathering
