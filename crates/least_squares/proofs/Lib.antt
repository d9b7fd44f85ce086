pub mod Diagonals
pub mod Examples
pub mod Six
