-- `gain::leaky_sums` meets its contract. The loop's invariant: sum is the leaky sum of what was added before place i, and the first entries are filled up to there.
use Rattle.std.proofs.Common.{◌≡◌, ℕ}
use lib.Ieee.{Float}
use Rattle.float.specs.Series.{fill}
use Rattle.gain.specs.Gain.{leaky, through}
use Rattle.gain.specs.Prepared.{series, Adds}
use Rattle.gain.proofs.leaky_sums.Given as goal

abbrev pub invariant-loop-i : goal.invariant-loop-i
invariant-loop-i g l = (x : ℕ → Float) → Adds (goal.F-post g l.added) l.ticks x → (l.sum ≡ leaky l.carry x l.i) × (l.leaky-items ≡ fill (series (through l.carry x)) l.initial.leaky-items l.i)
