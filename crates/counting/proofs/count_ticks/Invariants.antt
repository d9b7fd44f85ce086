-- The loop's invariant: the tally is that of the ticks passed.
use mathlib.Core.Path.{◌≡◌}
use Rattle.counting.specs.Tally.{tally_to}
use Rattle.counting.proofs.count_ticks.Given as goal

abbrev pub invariant-loop-mark : goal.invariant-loop-mark
invariant-loop-mark l = l.t ≡ tally_to l.held l.mark-index
