pub mod HeadView
pub mod CallForms
pub mod PathForms
pub mod Tails
pub mod Rules
pub mod Nests
