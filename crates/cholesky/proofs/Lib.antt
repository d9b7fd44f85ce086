pub mod Folds
pub mod Textbook
pub mod ColumnOrder
