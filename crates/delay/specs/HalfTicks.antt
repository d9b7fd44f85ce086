-- The one unit of a delay, half ticks: 01, "The account of a list of steps".
use Rattle.std.specs.Prelude.{ℕ, ◌+◌, ◌*◌, ◌/◌, ◌%◌}
use Rattle.delay.specs.declared.Delay.{Delay}

-- "The delay, counted in half ticks as 2·p from the recorded fit and p + 1 from the integrated one", p the tie rule's position
abbrev pub of_recorded : ℕ → Delay
of_recorded p = record { half_ticks = 2 * p }

abbrev pub of_integrated : ℕ → Delay
of_integrated p = record { half_ticks = p + 1 }

-- of what has no delay
abbrev pub no_delay : Delay
no_delay = record { half_ticks = 0 }

-- "the reported d is its whole ticks", and the half tick that is left: 1 or 0
abbrev pub whole_ticks : Delay → ℕ
whole_ticks d = d.half_ticks / 2

abbrev pub half_tick : Delay → ℕ
half_tick d = d.half_ticks % 2
