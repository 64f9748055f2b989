pub mod RowPaths
