pub mod Guarded
pub mod Ends
pub mod Kept
pub mod Steady
pub mod TwoSteady
