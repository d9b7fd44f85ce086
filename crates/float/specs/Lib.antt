pub mod Values
pub mod Narrow
pub mod Root
pub mod Exp
pub mod Log
pub mod Series
pub mod Width
