-- A probe's status as numbers: its delay in half ticks, in whole ticks and the half apart, and its model in plain units.
use Rattle.std.specs.Prelude.{ℕ, List, [], ◌∷◌, Float}
use Rattle.float.specs.Values.{zero32}
use Rattle.delay.specs.HalfTicks.{whole_ticks, half_tick}
use Rattle.std.specs.Prelude.{Option, Some, None}
use Rattle.units.specs.declared.Plain.{Plain}
use Rattle.account.specs.declared.IdentifyStatus.{IdentifyStatus}
use Rattle.account.specs.Probe.{delay_of}
use Rattle.report.specs.Report.{kind_of}
use Rattle.byte_units.specs.ByteUnits.{status_units}

unfoldable pub has_units : Option Plain → ℕ
has_units None = 0
has_units (Some p) = 1

unfoldable pub units_or_zeros : Option Plain → Plain
units_or_zeros None = record { lag_s = zero32; accel_radps2 = zero32 }
units_or_zeros (Some p) = p

-- kind; the delay in half ticks, its whole ticks and its half tick; whether it has plain units
unfoldable pub status_numbers : IdentifyStatus → List ℕ
status_numbers s =
    let delay = delay_of s in
    kind_of s ∷ delay.half_ticks ∷ whole_ticks delay ∷ half_tick delay ∷ has_units (status_units s) ∷ []

-- lag and acceleration
unfoldable pub status_plain : IdentifyStatus → List Float
status_plain s = let u = units_or_zeros (status_units s) in u.lag_s ∷ u.accel_radps2 ∷ []
