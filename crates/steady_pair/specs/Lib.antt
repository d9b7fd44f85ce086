pub mod SteadyPair
pub mod SteadyPairFlown
