pub mod SteadyPairFlying
