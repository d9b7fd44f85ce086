pub mod Below
pub mod Accumulators
pub mod Folds
pub mod Window
pub mod Examples
pub mod Zipped
pub mod Ranges
