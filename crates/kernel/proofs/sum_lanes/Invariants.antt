-- `kernel::sum_lanes` meets its contract. The loop's invariant: every lane has gone on by the ticks so far.
use Rattle.std.proofs.Common.{◌≡◌, ℕ, ◌<◌, length}
use Rattle.lanes.specs.Lanes.{lane_count}
use Rattle.kernel.specs.Kernel.{lane, lanes_on}
use Rattle.kernel.proofs.sum_lanes.Given as goal

abbrev pub invariant-loop-tick : goal.invariant-loop-tick
invariant-loop-tick l = (h : ℕ) → h < lane_count → lane l.on h ≡ lanes_on l.carry l.ticks l.constants l.changes h (lane l.initial.on h) (length l.yielded)
