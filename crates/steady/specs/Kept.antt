-- The band as a caller keeps it, in a word and a float: a word of 0 is a probe opened plain, and a first dt that is not above 0 is none yet.
use Rattle.std.specs.Prelude.{ℕ, zero, suc, Bool, true, false, cond, leb, Result, Ok, Err, Float}
use Rattle.std.specs.Float.Ieee.{lt}
use Rattle.float.specs.Values.{zero32}
use Rattle.rules.specs.declared.Rule.{Rule}
use Rattle.rules.specs.declared.Rule.TheVariants.{Form}
use Rattle.steady.specs.declared.Band.{Band}
use Rattle.steady.specs.declared.Band.TheVariants.{Plain, Steady, Around}
use Rattle.steady.specs.declared.SteadyClock.{SteadyClock}

unfoldable pub around : Bool → Float → Band
around true first = Around first
around false first = Steady

unfoldable pub band_in : ℕ → Float → Band
band_in zero first = Plain
band_in (suc steady) first = around (lt zero32 first) first

-- the first dt after a call, by the number that turned it back, whether the probe ran, and the band before it
unfoldable pub first_after : ℕ → Bool → Band → (first dt : Float) → Float
first_after (suc n) running band first dt = first
first_after zero false band first dt = first
first_after zero true Plain first dt = first
first_after zero true Steady first dt = dt
first_after zero true (Around f) first dt = first

-- ---- the word and the float in the struct
abbrev pub clock : ℕ → Float → SteadyClock
clock steady first = record { steady = steady; first_dt_s = first }

-- an option of 1 is "opened as steady", of 0 "without the word"; no other has a meaning
unfoldable pub opened_clock : ℕ → Result SteadyClock Rule
opened_clock options = cond (leb options 1) (Ok (clock options zero32)) (Err Form)

abbrev pub clock_band : SteadyClock → Band
clock_band c = band_in c.steady c.first_dt_s

abbrev pub clock_after : ℕ → Bool → (dt : Float) → SteadyClock → SteadyClock
clock_after n running dt c = clock c.steady (first_after n running (clock_band c) c.first_dt_s dt)
