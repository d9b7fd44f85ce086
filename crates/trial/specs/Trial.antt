-- What a gain fit's inner functions are stated by. The fit itself is in gain's Gain.antt.
use Rattle.std.specs.Prelude.{ℕ, ◌+◌, ◌-◌}
use Rattle.gain.specs.Gain.{first_tick, whole_ticks_of}

-- where the moments of step s begin: at the newer one of tick 11
abbrev pub first_moment : ℕ → ℕ
first_moment s = first_tick + 1 - whole_ticks_of s
