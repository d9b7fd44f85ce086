pub mod Vectors
pub mod LogSign
pub mod ProperLag
