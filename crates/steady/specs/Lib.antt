pub mod Band
pub mod Guarded
pub mod Kept
pub mod Steady
pub mod TwoSteady
