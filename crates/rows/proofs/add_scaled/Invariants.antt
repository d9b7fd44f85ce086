-- `rows::add_scaled` meets its contract. The loop's invariant: the entries before b have their products added.
use mathlib.Core.Path.{◌≡◌}
use lib.Ieee.{binary32, add, mul}
use Rattle.float.specs.Series.{at}
use Rattle.rows.specs.Rows.{each}
use Rattle.rows.proofs.add_scaled.Given as goal

abbrev pub invariant-loop-b : goal.invariant-loop-b
invariant-loop-b g l = l.sums ≡ each l.b (λ b s. add binary32 s (mul binary32 l.factor (at l.entries b))) l.initial.sums
