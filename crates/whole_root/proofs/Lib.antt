pub mod Squares
pub mod Rounds
pub mod Examples
