pub mod HalfTicks
pub mod Tie
