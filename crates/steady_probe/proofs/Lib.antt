pub mod Behind
pub mod Flying
pub mod SteadyFlying
