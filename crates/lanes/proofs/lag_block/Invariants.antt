-- `lanes::lag_block` meets its contract. The loop's invariant: the lags, and the same in f64, have the first k moments of the block in them, and the first k ticks are filled
-- (`Ticks`, proofs/Lags.antt).
use Rattle.std.proofs.Common.{◌+◌}
use Rattle.float.specs.Series.{at}
use Rattle.lanes.proofs.Lags.{Ticks}
use Rattle.lanes.proofs.lag_block.Given as goal

abbrev pub invariant-loop-k : goal.invariant-loop-k
invariant-loop-k l = Ticks l.poles l.initial.on (λ i. at l.moments (l.first + i)) l.initial.tick-items l.k l.on l.older l.tick-items
