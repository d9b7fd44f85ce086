-- The delay of an axis's status in its scalars is the one that is kept, and so its account's.
use Prim.Native.Nat.{ℕ}
use mathlib.Core.Path.{◌≡◌, sym, ap, ◌∙◌}
use mathlib.Core.List.{List}
use Rattle.account.specs.Probe.{delay_of}
use Rattle.probe_words.specs.Layout.{Scalars, status_in, probe_in}
use Rattle.live_status.specs.Status.{status_numbers}
use Rattle.live_status.proofs.Told.{told}
use Rattle.live_pair.specs.Flown.{TellsAxisDelay}
use Rattle.live_pair.proofs.Flying.{flies}

pub tells : (s : Scalars) (numbers : List ℕ) → numbers ≡ status_numbers (status_in s.words s.floats) → TellsAxisDelay s numbers
unfolding probe_in
tells s numbers e c calls answers k x f is =
    told (status_in s.words s.floats) _ numbers e (ap (λ (t : Scalars). delay_of (status_in t.words t.floats)) (sym is) ∙ ((flies f).holds.each x).half_ticks)
