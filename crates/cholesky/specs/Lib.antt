pub mod Cholesky
pub mod ColumnOrder
