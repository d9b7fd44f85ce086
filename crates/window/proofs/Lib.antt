pub mod Marked
pub mod Rows
pub mod Arrays
pub mod Bounds
pub mod Prefix
