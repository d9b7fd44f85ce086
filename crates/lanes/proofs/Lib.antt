pub mod Lags
pub mod Blocks
