-- The three numbers of a delay that a status tells are those of the delay that it keeps.
use Prim.Native.Nat.{ℕ}
use mathlib.Core.Path.{◌≡◌, refl}
use mathlib.Core.List.{List}
use Rattle.delay.specs.declared.Delay.{Delay}
use Rattle.delay.specs.HalfTicks.{whole_ticks, half_tick}
use Rattle.account.specs.declared.IdentifyStatus.{IdentifyStatus}
use Rattle.account.specs.Probe.{delay_of}
use Rattle.probe_words.specs.Layout.{word}
use Rattle.live_status.specs.Status.{status_numbers}

pub told : (s : IdentifyStatus) (delay : Delay) (numbers : List ℕ) → numbers ≡ status_numbers s → delay_of s ≡ delay
    → (word numbers 1 ≡ delay.half_ticks) × (word numbers 2 ≡ whole_ticks delay) × (word numbers 3 ≡ half_tick delay)
unfolding status_numbers
told s delay numbers is e = rw (is, e) (refl, refl, refl)
