pub mod Rules
pub mod Probe
pub mod Account
pub mod Claim
