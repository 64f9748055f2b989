pub mod OrderLaws
pub mod Chains
pub mod SoundLaws
