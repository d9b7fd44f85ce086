-- The delay of the status in the scalars is the one that is kept, and so the account's.
use Prim.Native.Nat.{ℕ}
use mathlib.Core.Path.{◌≡◌}
use mathlib.Core.List.{List}
use Rattle.probe_words.specs.Layout.{Scalars, status_in, probe_in}
use Rattle.live_status.specs.Status.{status_numbers}
use Rattle.live_status.proofs.Told.{told}
use Rattle.live_probe.proofs.Flying.{flies}
use Rattle.live.specs.Delay.{TellsDelay}

pub tells : (s : Scalars) (numbers : List ℕ) → numbers ≡ status_numbers (status_in s.words s.floats) → TellsDelay s numbers
unfolding probe_in
tells s numbers e c calls answers l f = told (status_in s.words s.floats) _ numbers e (flies f).holds.half_ticks
