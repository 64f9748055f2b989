pub mod LogQuery
pub mod Laws
