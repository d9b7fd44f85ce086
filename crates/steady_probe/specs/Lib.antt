pub mod Behind
pub mod SteadyLive
pub mod SteadyFlown
