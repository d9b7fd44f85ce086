pub mod Axes
pub mod Probes
pub mod Accounts
pub mod Claim
