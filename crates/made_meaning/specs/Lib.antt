pub mod OverGroups
pub mod MadeRows
pub mod Laws
