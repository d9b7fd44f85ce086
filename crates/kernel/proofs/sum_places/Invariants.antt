-- `kernel::sum_places` meets its contract. The outer loop's invariant: the lags stand, and the sums of every place are, as after the moments before block b; the inner loop's:
-- the whole ticks below d have block b in them too (`Places`, proofs/Blocks.antt).
use Rattle.std.proofs.Common.{◌≡◌, ◌≤◌, ◌+◌, ◌*◌, min, length}
use Rattle.float.specs.Series.{at}
use Rattle.lanes.specs.Lanes.{block_ticks}
use Rattle.lanes.proofs.Blocks.{lags_to}
use Rattle.kernel.proofs.Blocks.{Places}
use Rattle.kernel.proofs.sum_places.Given as goal

abbrev pub invariant-loop-d : goal.invariant-loop-d
invariant-loop-d l = Places l.input l.poles l.tick l.d l.sum-items

abbrev pub invariant-loop-b : goal.invariant-loop-b
invariant-loop-b l =
    (l.b ≤ l.b-end) × (length l.ticks ≡ block_ticks)
    × (l.lagged ≡ lags_to l.poles (at l.input.moments.now) (min (l.b * block_ticks) (l.n + 11)))
    × Places l.input l.poles (l.b * block_ticks) 0 l.sums
